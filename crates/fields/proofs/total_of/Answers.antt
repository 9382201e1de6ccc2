-- `total_of` meets its contract: the four widths, summed.
use native.Mathlib.Omega.{arith}
use Rattle.fields.specs.Fields.{total}
use Rattle.fields.proofs.total_of.Goals as goal

pub returns : goal.returns
unfolding total
returns c = (cc, omega arith)
