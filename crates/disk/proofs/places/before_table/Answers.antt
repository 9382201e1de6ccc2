-- The invariant: the sum is what the first t tables take.
use mathlib.Core.Path.{ap, ◌∙◌}
use native.Mathlib.Omega.{arith}
use Rattle.layout.specs.Laid.{table, before}
use Rattle.disk.specs.Laws.Header.{limits}
use Rattle.disk.specs.Laws.Places.{before_none, before_next, before_small, sectors_small}
use Rattle.disk.proofs.places.before_table.Goals as goal

pub loop-t-init : goal.loop-t-init
loop-t-init c =
    before_none c.args.sizes

pub overflow_add-sum : goal.overflow_add-sum
overflow_add-sum c =
    let z = limits c.args.sizes c.requires.0 in
    omega (arith, c.loop-t.auto.t-end, c.loop-t.invariant, c.sectors_of-sum.ensures, before_small c.args.sizes z c.loop-t.t, sectors_small c.args.sizes z (table c.loop-t.t))

pub loop-t-preserved : goal.loop-t-preserved
loop-t-preserved c =
    rw (c.loop-t.invariant, c.sectors_of-sum.ensures) (before_next c.args.sizes c.loop-t.t)

pub returns : goal.returns
returns c =
    c.loop-t.invariant ∙ ap (before c.args.sizes) (omega (arith, c.loop-t.auto.t-end, c.loop-t-test.false))
