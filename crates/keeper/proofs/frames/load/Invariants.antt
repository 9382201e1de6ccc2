-- The first i frames are copied.
use Rattle.std.proofs.Common.{◌≡◌}
use Rattle.keeper.specs.Copies.{copied}
use Rattle.keeper.proofs.frames.load.Given as goal

abbrev pub invariant-loop-i : goal.invariant-loop-i
invariant-loop-i l = l.a ≡ copied l.i l.frames l.initial.a
