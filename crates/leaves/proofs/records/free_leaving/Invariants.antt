use mathlib.Core.Path.{◌≡◌}
use Prim.Native.Nat.{◌+◌, ◌-◌, ◌≤◌}
use lib.ListN.{length}
use Rattle.tables.specs.Base.{at}
use Rattle.model.specs.State.{free_count}
use Rattle.leaves.specs.Freed.{Freeing}
use Rattle.leaves.proofs.records.free_leaving.Given as goal

abbrev pub invariant-loop-r : goal.invariant-loop-r
invariant-loop-r l = (length l.map ≡ length l.initial.map) × (l.r ≤ l.n) × Freeing l.sizes l.slot l.initial.states l.initial.owners l.r l.states l.owners l.map (free_count l.sizes (at l.initial.states) + l.count)

abbrev pub decreases-loop-r : goal.decreases-loop-r
decreases-loop-r l = l.n - l.r
