use Rattle.leaves.specs.Packed.{unpacked}
use Rattle.writeback.proofs.Leaves.{LeavesTurn}
use Rattle.writeback.proofs.update.leave_pages.Given as goal

abbrev pub invariant-loop-i : goal.invariant-loop-i
invariant-loop-i l = LeavesTurn l.sizes l.slot (unpacked l.frames) l.initial.addresses l.initial.states l.i l.addresses l.states
