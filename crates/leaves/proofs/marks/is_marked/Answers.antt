-- A shifted word's last bit is the number's mark.
use mathlib.Core.Path.{refl}
use Rattle.tables.specs.Bits.{bit}
use Rattle.leaves.proofs.marks.is_marked.Goals as goal

pub returns : goal.returns
unfolding bit
returns c = refl
