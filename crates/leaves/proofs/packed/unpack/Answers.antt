-- `unpack` meets its contract: the definition, byte by byte.
use mathlib.Core.Path.{refl}
use Rattle.leaves.specs.Packed.{unpack}
use Rattle.leaves.proofs.packed.unpack.Goals as goal

pub returns : goal.returns
unfolding unpack
returns c = refl
