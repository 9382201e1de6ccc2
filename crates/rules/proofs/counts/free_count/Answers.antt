-- The invariant: the free ones of the first r records are counted.
use native.Mathlib.Omega.{arith}
use Rattle.tables.specs.Base.{at}
use Rattle.rules.proofs.Tally.{one_le, count_start, count_next, count_end, count_few}
use lib.Dec.{eqb}
use Rattle.rules.proofs.counts.free_count.Goals as goal

pub loop-r-init : goal.loop-r-init
loop-r-init c = count_start _

pub overflow_add-n : goal.overflow_add-n
overflow_add-n c =
    let args = c.args in let pre = c.requires in
    let loop = c.loop-r in
    let l = one_le (eqb (at args.states.now loop.r) 0) in omega (arith, count_few _ _ _ loop.invariant, l, c.free_one-n.ensures, c.loop-r-test.true, pre)

pub loop-r-preserved : goal.loop-r-preserved
loop-r-preserved c =
    let loop = c.loop-r in
    count_next _ _ _ _ loop.invariant c.free_one-n.ensures

pub returns : goal.returns
returns c = count_end _ _ _ _ c.loop-r.invariant c.loop-r.auto.r-end c.loop-r-test.false
