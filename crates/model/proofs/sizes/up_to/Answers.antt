-- `up_to` meets its contract.
use lib.Dec.{leb-suc-suc}
use Rattle.tables.specs.Rule.{test}
use Rattle.model.proofs.sizes.up_to.Goals as goal

pub returns : goal.returns
unfolding test
returns c = rw leb-suc-suc
