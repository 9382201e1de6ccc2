use mathlib.Core.Path.{◌≡◌}
use Prim.Native.Nat.{◌+◌}
use Rattle.tables.specs.Base.{at}
use Rattle.tables.specs.Rule.{same, each, test}
use Rattle.rules.proofs.clean.equal.Given as goal

abbrev pub invariant-loop-k : goal.invariant-loop-k
invariant-loop-k l = l.ok ≡ test (each l.k (λ m. same (at l.a (l.i + m)) (at l.b (l.j + m))))
