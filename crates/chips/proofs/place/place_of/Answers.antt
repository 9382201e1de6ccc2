-- `place_of` meets its contract: no place passed has the record's copy.
use mathlib.Core.Path.{sym, ◌∙◌}
use Prim.Native.Nat.{suc}
use native.Mathlib.Omega.{arith}
use native.Mathlib.Numerals.{add-one}
use lib.Dec.{eqb, eqb→eq}
use lib.ListN.{length}
use Rattle.tables.specs.Base.{at}
use Rattle.tables.specs.Laws.{eq→T}
use Rattle.tables.specs.FindLaws.{find_at, find_none}
use Rattle.chips.proofs.place.place_of.Goals as goal

pub returns-then-copies-b : goal.returns-then-copies-b
returns-then-copies-b c =
    let a = c.args in
    sym (find_at (length a.copies.now) (λ k. eqb (at a.copies.now k) (suc a.r)) 0 c.loop-b.b (omega arith) (omega arith) (eq→T (c.if-copies-b.true ∙ add-one a.r)) (λ k h i t. c.loop-b.invariant k i (eqb→eq _ _ t)))

pub returns : goal.returns
returns c =
    let a = c.args in
    sym (find_none (length a.copies.now) (λ k. eqb (at a.copies.now k) (suc a.r)) 0 (λ k h i t. c.loop-b.invariant k (omega arith) (eqb→eq _ _ t)) ∙ omega arith)
