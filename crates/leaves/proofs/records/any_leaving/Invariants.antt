use mathlib.Core.Path.{◌≡◌}
use Rattle.tables.specs.Rule.{some, test}
use Rattle.leaves.specs.Freed.{leaver_from}
use Rattle.leaves.proofs.records.any_leaving.Given as goal

abbrev pub invariant-loop-r : goal.invariant-loop-r
invariant-loop-r l = l.any ≡ test (some l.r (leaver_from l.states l.owners l.owner l.start))
