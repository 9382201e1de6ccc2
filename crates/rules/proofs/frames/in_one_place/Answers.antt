-- The sum is the rule's.
use native.Mathlib.Omega.{arith}
use Rattle.tables.specs.Rule.{test}
use Rattle.rules.proofs.FrameTests.{moving_le}
use Rattle.rules.proofs.frames.in_one_place.Goals as goal

pub returns : goal.returns
unfolding test
returns c = rw c.moving.ensures
