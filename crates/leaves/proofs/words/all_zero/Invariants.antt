use Prim.Native.Nat.{◌+◌, ◌-◌, ◌*◌, ◌≤◌}
use Rattle.tables.specs.Base.{at}
use Rattle.tables.specs.Rule.{same}
use Rattle.tables.specs.Turn.{Passed}
use Rattle.leaves.proofs.words.all_zero.Given as goal

abbrev pub invariant-loop-w : goal.invariant-loop-w
invariant-loop-w l = (l.w ≤ l.size) × Passed l.w (λ i. same (at l.words (l.part * l.size + i)) 0)

abbrev pub decreases-loop-w : goal.decreases-loop-w
decreases-loop-w l = l.size - l.w
