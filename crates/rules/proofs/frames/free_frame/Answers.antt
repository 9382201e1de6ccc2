-- The test is the rule's.
use mathlib.Core.Bool.{and_assoc}
use Rattle.tables.specs.Rule.{test}
use Rattle.rules.proofs.FrameTests.{if_not}
use Rattle.rules.proofs.frames.free_frame.Goals as goal

pub returns : goal.returns
unfolding test
returns c = simp (if_not, and_assoc)
