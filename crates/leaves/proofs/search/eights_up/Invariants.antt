use Prim.Native.Nat.{◌-◌, ◌≤◌}
use Rattle.leaves.specs.Search.{Unmarked}
use Rattle.leaves.proofs.search.eights_up.Given as goal

abbrev pub invariant-loop-w : goal.invariant-loop-w
invariant-loop-w l = (l.from ≤ l.w) × (l.w ≤ l.to) × Unmarked l.map l.from l.w

abbrev pub decreases-loop-w : goal.decreases-loop-w
decreases-loop-w l = l.to - l.w
