use Rattle.tables.specs.Base.{at}
use Rattle.leaves.specs.Near.{Passed}
use Rattle.leaves.proofs.near.neighbour.Given as goal

abbrev pub invariant-loop-k : goal.invariant-loop-k
invariant-loop-k l = Passed (at l.addresses) l.page l.k
