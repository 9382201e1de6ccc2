use Prim.Native.Nat.{◌≤◌}
use Rattle.leaves.specs.Search.{Unmarked}
use Rattle.leaves.proofs.search.eights_down.Given as goal

abbrev pub invariant-loop-w : goal.invariant-loop-w
invariant-loop-w l = (l.from ≤ l.w) × (l.w ≤ l.to) × Unmarked l.map l.w l.to

abbrev pub decreases-loop-w : goal.decreases-loop-w
decreases-loop-w l = l.w
