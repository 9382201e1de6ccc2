-- `sizes_in` meets its contract: its five tests together are the rule's test.
use mathlib.Core.Path.{refl}
use Rattle.tables.specs.Rule.{test}
use Rattle.disk.proofs.header.sizes_in.Goals as goal

pub returns : goal.returns
unfolding test
returns c = refl
