-- The tests are the rule's.
use mathlib.Core.Bool.{and_assoc}
use Rattle.tables.specs.Rule.{test}
use Rattle.rules.proofs.frames.frame_fit.Goals as goal

pub returns : goal.returns
unfolding test
returns c = simp and_assoc
