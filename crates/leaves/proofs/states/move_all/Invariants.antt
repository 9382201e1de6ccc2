use Rattle.tables.specs.Base.{at}
use Rattle.tables.specs.Rule.{same, ◌and◌}
use Rattle.tables.specs.StoreLoops.{Turned}
use Rattle.leaves.proofs.states.move_all.Given as goal

abbrev pub invariant-loop-r : goal.invariant-loop-r
invariant-loop-r l = Turned l.initial.states (λ k. same (at l.initial.states k) l.from and same (at l.owners k) l.slot) (λ k. l.to) l.r l.states
