-- `pass_blocks` meets its contract: none of the blocks passed has the entry.
use mathlib.Core.Path.{◌≡◌, ap, ◌∙◌}
use mathlib.Core.List.{List}
use Prim.Native.Nat.{ℕ, ◌+◌, ◌-◌, ◌<◌, ◌≤◌}
use native.Mathlib.Omega.{arith}
use native.Mathlib.Decide.{dec_lt}
use lib.ListN.{length, take, drop, length-take, length-drop}
use Rattle.std.proofs.Common.{get_or-take, get_or-drop}
use Rattle.tables.specs.Base.{at}
use Rattle.tables.specs.Rule.{Holds, same, non, each}
use Rattle.tables.specs.Turn.{said_yes}
use Rattle.chips.proofs.place.pass_blocks.Goals as goal

-- the block is the n entries from b up
more : (xs : List ℕ) (e b n : ℕ) → n ≡ 32 → b + 32 ≤ length xs → ((k : ℕ) → k < b → at xs k ≡ e → ⊥)
    → Holds (each (length (take n (drop b xs))) (λ k. non (same (at (take n (drop b xs)) k) e))) → (k : ℕ) → k < b + 32 → at xs k ≡ e → ⊥
more xs e b n w l before none k h here = elim (dec_lt k b) [
  | yes y ↦ before k y here
  | no y ↦
      let q : b + (k - b) ≡ k = omega arith in
      let i : k - b < n = omega arith in
      none (k - b) (simp (length-take, length-drop) (omega arith)) (get_or-take n (drop b xs) (k - b) 0 i ∙ get_or-drop b xs (k - b) 0 ∙ ap (at xs) q ∙ here)
]

pub loop-b-preserved : goal.loop-b-preserved
loop-b-preserved c =
    let a = c.args in
    (omega arith, more a.copies.now a.wanted c.loop-b.b _ (omega arith) (omega arith) c.loop-b.invariant.1 (said_yes _ c.none_in.ensures c.if-not-none_in.false))
