use mathlib.Core.Path.{◌≡◌}
use Prim.Native.Nat.{◌+◌, ◌*◌}
use lib.Dec.{ltb}
use Rattle.tables.specs.Base.{at, count}
use Rattle.tables.specs.Turn.{Passed}
use Rattle.rules.specs.Passes.{held_entries}
use Rattle.rules.proofs.rows.inactive_row.Given as goal

abbrev pub invariant-loop-p : goal.invariant-loop-p
invariant-loop-p l = Passed l.p (λ k. held_entries l.s l.active (at l.maps (l.s * l.pages + k)) (at l.addresses (l.s * l.pages + k)) (at l.states) (at l.owners)) × (l.used ≡ count l.p (λ k. ltb 0 (at l.maps (l.s * l.pages + k))))
