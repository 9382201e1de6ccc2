use mathlib.Core.Path.{◌≡◌}
use Prim.Native.Nat.{ℕ, ◌<◌}
use Rattle.tables.specs.Base.{at}
use Rattle.designs.proofs.asks.number_new.Given as goal

abbrev pub invariant-loop-other : goal.invariant-loop-other
invariant-loop-other l = (i : ℕ) → i < l.other-index → ¬ (at l.numbers i ≡ l.number)
