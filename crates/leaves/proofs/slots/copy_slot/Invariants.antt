use Prim.Native.Nat.{◌/◌}
use Rattle.tables.specs.Base.{at}
use Rattle.tables.specs.Rule.{same}
use Rattle.tables.specs.StoreLoops.{Turned}
use Rattle.leaves.proofs.slots.copy_slot.Given as goal

abbrev pub invariant-loop-i : goal.invariant-loop-i
invariant-loop-i l = Turned l.initial.to (λ i. same (i / l.pages) l.slot) (at l.from) l.i l.to
