use mathlib.Core.Path.{◌≡◌}
use mathlib.Core.Bool.{Bool}
use mathlib.Core.List.{List}
use Prim.Native.Nat.{ℕ, ◌+◌, ◌-◌}
use lib.Dec.{eqb}
use Rattle.tables.specs.Base.{at}
use Rattle.tables.specs.Bits.{bits}
use Rattle.model.specs.Lines.{FREE}
use Rattle.rules.proofs.counts.free_bits.Given as goal

abbrev pub free : List ℕ → ℕ → Bool
free states r = eqb (at states r) FREE

abbrev pub invariant-loop-n : goal.invariant-loop-n
invariant-loop-n l = l.word ≡ bits l.n (free l.states) (l.from + (l.count - l.n))
