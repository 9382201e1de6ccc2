use mathlib.Core.Path.{◌≡◌}
use Rattle.layout.specs.Laid.{before}
use Rattle.disk.proofs.places.before_table.Given as goal

abbrev pub invariant-loop-t : goal.invariant-loop-t
invariant-loop-t l = l.sum ≡ before l.sizes l.t
