-- `lowest` meets its contract: the zeros at the end of the shifted word are the places passed.
use mathlib.Core.Path.{◌≡◌, sym, ◌∙◌}
use Prim.Native.Nat.{ℕ, ◌+◌, ◌-◌, ◌/◌, ◌^◌, ◌<◌}
use native.Mathlib.Omega.{arith}
use lib.Count.{count_trailing_zeros}
use lib.Dec.{eqb, eqb→eq}
use Rattle.tables.specs.Base.{find}
use Rattle.tables.specs.Bits.{bit}
use Rattle.tables.specs.FindLaws.{find_at, find_none}
use Rattle.tables.specs.Laws.{eq→T}
use Rattle.leaves.proofs.WordBits.{up_inside, up_found, up_passed, up_none}
use Rattle.leaves.proofs.search.lowest.Goals as goal

module _ (v b : ℕ) (inside : b < 32) where
  abbrev found : ℕ
  found = find (32 - b) (λ k. eqb (bit k v) 1) b

  none-on : v / 2 ^ b ≡ 0 → 32 ≡ found
  none-on e = sym (find_none (32 - b) (λ k. eqb (bit k v) 1) b (λ k h l t. let s : b + (k - b) ≡ k = omega arith in omega (arith, eqb→eq (bit k v) 1 t, rw s at (up_none b (k - b) v e))) ∙ omega arith)

  first_on : v < 2 ^ 32 → ¬ (v / 2 ^ b ≡ 0) → b + count_trailing_zeros 32 (v / 2 ^ b) ≡ found
  first_on fits some = sym (find_at (32 - b) (λ k. eqb (bit k v) 1) b (b + count_trailing_zeros 32 (v / 2 ^ b)) (omega arith) (omega (arith, up_inside 32 v b inside fits some)) (eq→T (up_found 32 v b inside fits some)) (λ k h l t.
      let s : b + (k - b) ≡ k = omega arith in
      omega (arith, eqb→eq (bit k v) 1 t, rw s at (up_passed 32 v b inside fits some (k - b) (omega arith)))))

pub returns-then-rest-eq0 : goal.returns-then-rest-eq0
returns-then-rest-eq0 c = none-on c.args.word c.args.place c.requires c.if-rest-eq0.true

pub returns : goal.returns
returns c = first_on c.args.word c.args.place c.requires c.ranges.word.fits c.if-rest-eq0.false
