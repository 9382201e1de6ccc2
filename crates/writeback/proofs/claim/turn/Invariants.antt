use Prim.Native.Nat.{suc, ◌-◌}
use Rattle.tables.specs.Queue.{size}
use Rattle.leaves.specs.Packed.{unpacked}
use Rattle.writeback.proofs.Looks.{Round}
use Rattle.writeback.proofs.claim.turn.Given as goal

abbrev pub invariant-loop-g : goal.invariant-loop-g
invariant-loop-g l = Round (unpacked l.initial.frames) l.initial.list (unpacked l.frames) l.looks l.f l.g l.list

abbrev pub decreases-loop-g : goal.decreases-loop-g
decreases-loop-g l = suc (size l.initial.list) - l.looks
