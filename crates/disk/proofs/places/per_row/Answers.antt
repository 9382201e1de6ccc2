-- `per_row` meets its contract.
use mathlib.Core.Path.{refl}
use Rattle.layout.specs.Rows.{per_row}
use Rattle.disk.proofs.places.per_row.Goals as goal

pub returns : goal.returns
unfolding per_row
returns c = refl
