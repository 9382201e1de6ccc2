-- The mark is on, so that its power can be taken away.
use Prim.Native.Nat.{◌/◌, ◌%◌}
use native.Mathlib.Omega.{arith}
use Rattle.tables.specs.Base.{at}
use Rattle.tables.specs.Marks.{shifted, clear_fits}
use Rattle.leaves.proofs.marks.clear_mark.Goals as goal

pub overflow_sub-marks : goal.overflow_sub-marks
overflow_sub-marks c = let k = c.args.r in rw (shifted (k % 32) (omega arith)) (clear_fits (k % 32) (at c.args.marks.now (k / 32)) c.requires.1)

pub returns : goal.returns
returns c = let k = c.args.r in rw (shifted (k % 32) (omega arith))
