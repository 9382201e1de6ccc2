-- The test is the rule's.
use mathlib.Core.Path.{refl}
use Rattle.tables.specs.Rule.{test}
use Rattle.accounts.proofs.limit.stays_payer.Goals as goal

pub returns : goal.returns
unfolding test
returns c = refl
