use lib.Dec.{eqb}
use lib.ListN.{length}
use Rattle.tables.specs.Base.{at, if}
use Rattle.leaves.specs.ByEntry.{Begun}
use Rattle.restarts.proofs.format.store_parents.Given as goal

abbrev pub invariant-loop-a : goal.invariant-loop-a
invariant-loop-a l = Begun (length l.initial.parents) (λ k. if (eqb k 0) 0 (at l.wanted k)) l.a l.parents
