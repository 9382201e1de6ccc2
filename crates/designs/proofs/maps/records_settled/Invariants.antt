use mathlib.Core.Path.{◌≡◌}
use Rattle.tables.specs.Rule.{test}
use Rattle.designs.specs.Asks.{settled}
use Rattle.designs.proofs.maps.records_settled.Given as goal

abbrev pub invariant-loop-r : goal.invariant-loop-r
invariant-loop-r l = l.all ≡ test (settled l.r l.states l.owners l.own)
