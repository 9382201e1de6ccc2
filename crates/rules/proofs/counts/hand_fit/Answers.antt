-- The test is the rule's.
use mathlib.Core.Path.{refl}
use Rattle.tables.specs.Rule.{test}
use Rattle.rules.proofs.counts.hand_fit.Goals as goal

pub returns : goal.returns
unfolding test
returns c =
    refl
