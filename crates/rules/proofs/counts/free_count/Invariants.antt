use mathlib.Core.Path.{◌≡◌}
use Rattle.tables.specs.Base.{at, count}
use lib.Dec.{eqb}
use Rattle.rules.proofs.counts.free_count.Given as goal

abbrev pub invariant-loop-r : goal.invariant-loop-r
invariant-loop-r l = l.n ≡ count l.r (λ k. eqb (at l.states k) 0)
