use Prim.Native.Nat.{◌+◌, ◌-◌, ◌≤◌}
use Rattle.tables.specs.Base.{at}
use Rattle.tables.specs.Rule.{same}
use Rattle.tables.specs.Turn.{Passed}
use Rattle.sheets.proofs.read.all_zero.Given as goal

abbrev pub invariant-loop-k : goal.invariant-loop-k
invariant-loop-k l = (l.k ≤ l.n) × Passed l.k (λ i. same (at l.s (l.from + i)) 0)

abbrev pub decreases-loop-k : goal.decreases-loop-k
decreases-loop-k l = l.n - l.k
