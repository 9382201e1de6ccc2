-- `highest` meets its contract: the zeros at the top of the shifted word are the places passed.
use mathlib.Core.Path.{◌≡◌, sym, ◌∙◌}
use Prim.Native.Nat.{ℕ, suc, ◌+◌, ◌-◌, ◌*◌, ◌%◌, ◌^◌, ◌<◌}
use native.Mathlib.Omega.{arith}
use lib.Count.{count_leading_zeros}
use lib.Dec.{eqb, eqb→eq}
use Rattle.tables.specs.Base.{find}
use Rattle.tables.specs.Bits.{bit}
use Rattle.tables.specs.FindLaws.{find_at, find_none}
use Rattle.tables.specs.Laws.{eq→T}
use Rattle.leaves.proofs.WordBits.{down_none, down_inside, down_found, down_passed}
use Rattle.leaves.proofs.search.highest.Goals as goal

module _ (v b : ℕ) (inside : b < 32) where
  -- the word shifted up, its bit b at the top
  abbrev rest : ℕ
  rest = v * 2 ^ (31 - b) % 2 ^ 32

  abbrev passed : ℕ
  passed = find (suc b) (λ k. eqb (bit (b - k) v) 1) 0

  top : 31 - b + suc b ≡ 32
  top = omega arith

  none-on : rest ≡ 0 → b + 1 ≡ passed
  none-on e = sym (find_none (suc b) (λ k. eqb (bit (b - k) v) 1) 0 (λ k h l t. omega (arith, eqb→eq (bit (b - k) v) 1 t, down_none 32 v b (31 - b) top e k (omega arith))) ∙ omega arith)

  first_on : ¬ (rest ≡ 0) → count_leading_zeros 32 rest ≡ passed
  first_on some = sym (find_at (suc b) (λ k. eqb (bit (b - k) v) 1) 0 (count_leading_zeros 32 rest) (omega arith) (omega (arith, down_inside 32 v b (31 - b) top some)) (eq→T (down_found 32 v b (31 - b) top some)) (λ k h l t.
      omega (arith, eqb→eq (bit (b - k) v) 1 t, down_passed 32 v b (31 - b) top some k l)))

pub returns-then-rest-eq0 : goal.returns-then-rest-eq0
returns-then-rest-eq0 c = none-on c.args.word c.args.place c.requires c.if-rest-eq0.true

pub returns : goal.returns
returns c = first_on c.args.word c.args.place c.requires c.if-rest-eq0.false
