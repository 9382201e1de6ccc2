-- `starts` meets its contract: the code's table, whole, is computed to be the rule's.
use mathlib.Core.Path.{refl}
use Rattle.tables.specs.Base.{tab}
use Rattle.sectors.proofs.starts.Goals as goal

pub returns : goal.returns
unfolding tab
returns c = refl
