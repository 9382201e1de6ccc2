use native.Mathlib.Omega.{arith}
use Rattle.keeper.specs.Copies.{capped}
use Rattle.keeper.proofs.frames.capped.Goals as goal

pub returns : goal.returns
unfolding capped
returns c = omega (arith, c.min.ensures)
