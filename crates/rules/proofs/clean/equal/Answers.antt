-- The invariant: ok tells whether the first k words are equal.
use Rattle.tables.specs.Turn.{each_none, each_next, each_end, test_same}
use Rattle.rules.proofs.clean.equal.Goals as goal

pub loop-k-init : goal.loop-k-init
loop-k-init c = each_none _

pub loop-k-preserved : goal.loop-k-preserved
loop-k-preserved c =
    let loop = c.loop-k in
    each_next _ _ _ _ loop.invariant (test_same _ _)

pub returns : goal.returns
returns c = each_end _ _ _ _ c.loop-k.invariant c.loop-k.auto.k-end c.loop-k-test.false
