-- `new` meets its contract: its seven tests together are the rule's test, and so is question 1's answer.
use mathlib.Core.Bool.{true, false, and_assoc}
use Rattle.tables.specs.Rule.{test}
use Rattle.model.specs.Sizes.{made_by}
use Rattle.model.proofs.sizes.Sizes.new.Goals as goal

pub returns-then-fit : goal.returns-then-fit
unfolding test
returns-then-fit c = made_by _ true (cc (simp and_assoc at c.if-fit.true))

pub returns-else-fit : goal.returns-else-fit
unfolding test
returns-else-fit c = made_by _ false (cc (simp and_assoc at c.if-fit.false))
