use mathlib.Core.Path.{◌≡◌}
use Prim.Native.Nat.{◌+◌}
use Rattle.tables.specs.Base.{at}
use Rattle.tables.specs.Rule.{same, each, test}
use Rattle.sheets.proofs.read.zeros.Given as goal

abbrev pub invariant-loop-byte : goal.invariant-loop-byte
invariant-loop-byte l = l.ok ≡ test (each l.byte-index (λ i. same (at l.s (l.from + i)) 0))
