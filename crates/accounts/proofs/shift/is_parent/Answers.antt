-- The test is the rule's.
use mathlib.Core.Path.{◌∙◌}
use mathlib.Core.Bool.{◌&&◌}
use lib.Dec.{eqb, ltb}
use Rattle.tables.specs.Rule.{test}
use Rattle.accounts.proofs.shift.is_parent.Goals as goal

pub returns : goal.returns
unfolding test
returns c =
    λ x. ltb 0 c.args.b && eqb ((c.from.ensures ∙ c.at.ensures) x) c.args.a
