use mathlib.Core.Path.{◌≡◌}
use Prim.Native.Nat.{ℕ, ◌-◌, ◌%◌, ◌<◌, ◌≤◌}
use Rattle.tables.specs.Base.{at}
use Rattle.leaves.proofs.packed.pass_fours.Given as goal

abbrev pub invariant-loop-f : goal.invariant-loop-f
invariant-loop-f l = (l.f ≤ l.most) × ((k : ℕ) → k < l.f → at l.frames k % 65536 ≡ l.entry → ⊥)

abbrev pub decreases-loop-f : goal.decreases-loop-f
decreases-loop-f l = l.most - l.f
