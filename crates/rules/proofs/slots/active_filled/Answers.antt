-- The test is the rule's.
use Rattle.tables.specs.Rule.{test}
use Rattle.tables.specs.Turn.{if_then}
use Rattle.rules.proofs.slots.active_filled.Goals as goal

pub returns : goal.returns
unfolding test
returns c = simp if_then
