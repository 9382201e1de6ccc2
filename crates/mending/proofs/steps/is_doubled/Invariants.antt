-- `is_doubled`: no slot passed has the number of slot s.
use mathlib.Core.Path.{◌≡◌}
use Prim.Native.Nat.{ℕ, ◌<◌}
use Rattle.tables.specs.Base.{at}
use Rattle.mending.proofs.steps.is_doubled.Given as goal

abbrev pub invariant-loop-other : goal.invariant-loop-other
invariant-loop-other l = (i : ℕ) → i < l.other-index → ¬ (at l.numbers i ≡ at l.numbers l.s)
