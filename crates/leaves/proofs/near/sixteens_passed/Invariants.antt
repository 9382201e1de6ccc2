use Prim.Native.Nat.{◌+◌, ◌-◌, ◌≤◌}
use Rattle.tables.specs.Base.{at}
use Rattle.leaves.specs.Near.{Passed}
use Rattle.leaves.proofs.near.sixteens_passed.Given as goal

abbrev pub invariant-loop-k : goal.invariant-loop-k
invariant-loop-k l = (1 ≤ l.k) × (l.k ≤ l.count + 1) × Passed (at l.addresses) l.page l.k

abbrev pub decreases-loop-k : goal.decreases-loop-k
decreases-loop-k l = l.count + 1 - l.k
