-- The first i frames are copied.
use Rattle.std.proofs.Common.{◌≡◌}
use Rattle.keeper.specs.Copies.{copied}
use Rattle.keeper.proofs.frames.save.Given as goal

abbrev pub invariant-loop-i : goal.invariant-loop-i
invariant-loop-i l = l.frames ≡ copied l.i l.values l.initial.frames
