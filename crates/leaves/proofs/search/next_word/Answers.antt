-- `next_word` meets its contract: no word passed has a mark.
use mathlib.Core.Path.{sym, ◌∙◌}
use Prim.Native.Nat.{◌-◌}
use native.Mathlib.Omega.{arith}
use lib.Dec.{ltb, ltb→lt, lt→ltb}
use Rattle.tables.specs.Base.{at}
use Rattle.tables.specs.FindLaws.{find_at, find_none}
use Rattle.leaves.proofs.search.next_word.Goals as goal

pub returns-then-map-w-ne0 : goal.returns-then-map-w-ne0
returns-then-map-w-ne0 c =
    let a = c.args in
    let m = a.map.now in
    sym (find_at (a.to - a.from) (λ k. ltb 0 (at m k)) a.from c.loop-w.w (omega arith) (omega arith) (lt→ltb 0 (at m c.loop-w.w) (omega (arith, c.if-map-w-ne0.true)))
    (λ k h b t. omega (arith, ltb→lt 0 (at m k) t, c.loop-w.invariant k h b)))

pub returns : goal.returns
returns c =
    let a = c.args in
    let m = a.map.now in
    sym (find_none (a.to - a.from) (λ k. ltb 0 (at m k)) a.from (λ k h b t. omega (arith, ltb→lt 0 (at m k) t, c.loop-w.invariant k h (omega (arith, b, c.loop-w-test.false, c.requires.0)))) ∙ omega (arith, c.requires.0))
