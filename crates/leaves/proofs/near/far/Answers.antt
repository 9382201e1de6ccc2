-- `far` meets its contract: the words passed on both sides have no free record.
use mathlib.Core.Path.{◌≡◌}
use mathlib.Core.List.{List}
use Prim.Native.Nat.{ℕ, ◌+◌, ◌-◌, ◌*◌, ◌/◌, ◌<◌, ◌≤◌}
use native.Mathlib.Omega.{arith}
use Rattle.tables.specs.Base.{find}
use Rattle.model.specs.declared.sizes.Sizes.{Sizes}
use Rattle.leaves.specs.Search.{mark_around, Around}
use Rattle.leaves.proofs.Searched.{find_most, words_off, off_not_free}
use Rattle.leaves.proofs.near.far.Goals as goal

module _ (z : Sizes) (map : List ℕ) (r : ℕ) where
  -- k words are
  wider : (n k d : ℕ) → r < z.records → ¬ (k ≡ 0) → k ≡ find n (mark_around map (r / 32)) 0 → d ≡ r / 32 + 1 - k → Around z map r (d * 32) ((r / 32 + k) * 32)
  wider n k d h o e f = record { low = omega (arith, o, f); most = omega (arith, h, o, f); high = omega (arith, o); none = λ i a b. off_not_free z map i (words_off map n (r / 32) k e i (omega (arith, a, f)) b) }

pub overflow_add-w-3 : goal.overflow_add-w-3
overflow_add-w-3 c =
    let most : c.words_passed-k.result ≤ 2048 = let a = c.args in omega (arith, c.requires.3, find_most c.min-reach.result (mark_around a.map.now (a.record / 32)) 0 c.words_passed-k.result c.words_passed-k.ensures) in
    omega (arith, most, c.requires.3)

pub overflow_mul-w : goal.overflow_mul-w
overflow_mul-w c =
    let most : c.words_passed-k.result ≤ 2048 = let a = c.args in omega (arith, c.requires.3, find_most c.min-reach.result (mark_around a.map.now (a.record / 32)) 0 c.words_passed-k.result c.words_passed-k.ensures) in
    omega (arith, most, c.requires.3)

pub beyond-requires-2 : goal.beyond-requires-2
beyond-requires-2 c =
    let a = c.args in
    (c.requires.0, c.requires.1, c.requires.2, c.requires.3, wider a.sizes a.map.now a.record c.min-reach.result c.words_passed-k.result c.saturating_sub-below.result (omega (arith, c.if-record-records.false)) c.if-k-eq0.false c.words_passed-k.ensures c.saturating_sub-below.ensures)
