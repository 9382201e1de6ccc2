use mathlib.Core.Path.{◌≡◌}
use Rattle.tables.specs.Base.{at}
use Rattle.tables.specs.Rule.{same, non, each, test}
use Rattle.chips.proofs.place.none_in.Given as goal

abbrev pub invariant-loop-entry : goal.invariant-loop-entry
invariant-loop-entry l = l.ok ≡ test (each l.entry-index (λ j. non (same (at l.entries j) l.wanted)))
