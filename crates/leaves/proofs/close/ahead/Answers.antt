-- `ahead` meets its contract: the zeros at the end of the shifted pair are the numbers passed.
use mathlib.Core.Path.{◌≡◌, ap, sym, ◌∙◌}
use mathlib.Core.List.{List}
use Prim.Native.Nat.{ℕ, ◌+◌, ◌-◌, ◌*◌, ◌/◌, ◌%◌, ◌^◌, ◌<◌}
use native.Mathlib.Omega.{arith}
use lib.Count.{count_trailing_zeros}
use lib.Dec.{eqb→eq}
use Rattle.tables.specs.Base.{at}
use Rattle.tables.specs.Bits.{bit}
use Rattle.tables.specs.Laws.{eq→T}
use Rattle.tables.specs.Marks.{bit_of}
use Rattle.leaves.specs.Search.{marked, ahead}
use Rattle.leaves.proofs.WordBits.{up_inside, up_found, up_passed, up_none}
use Rattle.leaves.proofs.Beside.{is_found, is_none, two_bits}
use Rattle.leaves.proofs.close.ahead.Goals as goal

module _ (map : List ℕ) (i v : ℕ) (fits : at map (i / 32) < 2 ^ 32) (e : v ≡ at map (i / 32 + 1) * 4294967296 + at map (i / 32)) where
  shown : (k : ℕ) → k < 64 - i % 32 → bit (i % 32 + k) v ≡ bit_of map (i + k)
  shown k h = let s : i / 32 * 32 + (i % 32 + k) ≡ i + k = omega arith in two_bits map (i / 32) v fits e (i % 32 + k) (omega arith) ∙ ap (bit_of map) s

  none-on : v / 2 ^ (i % 32) ≡ 0 → 65536 ≡ ahead map i
  none-on z = is_none (64 - i % 32) (λ k. marked map (i + k)) (λ k h t. omega (arith, eqb→eq (bit_of map (i + k)) 1 t, shown k h, up_none (i % 32) k v z))

  first_on : v < 2 ^ 64 → ¬ (v / 2 ^ (i % 32) ≡ 0) → count_trailing_zeros 64 (v / 2 ^ (i % 32)) ≡ ahead map i
  first_on wide some =
      let b : i % 32 < 64 = omega arith in
      let k = count_trailing_zeros 64 (v / 2 ^ (i % 32)) in
      let l : k < 64 - i % 32 = omega (arith, up_inside 64 v (i % 32) b wide some) in
      is_found (64 - i % 32) (λ j. marked map (i + j)) k l (eq→T (sym (shown k l) ∙ up_found 64 v (i % 32) b wide some))
      (λ j h t. omega (arith, eqb→eq (bit_of map (i + j)) 1 t, shown j (omega (arith, h, l)), up_passed 64 v (i % 32) b wide some j h))

pub returns-then-rest-eq0 : goal.returns-then-rest-eq0
returns-then-rest-eq0 c =
    let a = c.args in
    let m = a.map.now in
    let w = a.i / 32 in
    let e = c.pair.ensures ∙ ap (λ (x : ℕ). x * 4294967296 + at m w) c.at.ensures in
    none-on m a.i c.pair.result (c.type_inv.map w).fits e c.if-rest-eq0.true

pub returns : goal.returns
returns c =
    let a = c.args in
    let m = a.map.now in
    let w = a.i / 32 in
    let e = c.pair.ensures ∙ ap (λ (x : ℕ). x * 4294967296 + at m w) c.at.ensures in
    let low : at m w < 2 ^ 32 = (c.type_inv.map w).fits in
    let high : at m (w + 1) < 2 ^ 32 = (c.type_inv.map (w + 1)).fits in
    first_on m a.i c.pair.result low e (omega (arith, e, low, high)) c.if-rest-eq0.false
