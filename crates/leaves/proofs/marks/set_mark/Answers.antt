-- The mark is off, so that its power can be added.
use Prim.Native.Nat.{◌/◌, ◌%◌}
use native.Mathlib.Omega.{arith}
use Rattle.tables.specs.Base.{at}
use Rattle.tables.specs.Marks.{shifted, set_fits}
use Rattle.leaves.proofs.marks.set_mark.Goals as goal

pub overflow_add-marks : goal.overflow_add-marks
overflow_add-marks c = let k = c.args.r in
    rw (shifted (k % 32) (omega arith)) record { fits = set_fits 32 (k % 32) (at c.args.marks.now (k / 32)) (omega arith) (c.slice_known-1.given (k / 32)).fits c.requires.1 }

pub returns : goal.returns
returns c = let k = c.args.r in rw (shifted (k % 32) (omega arith))
