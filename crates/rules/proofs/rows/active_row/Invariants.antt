use mathlib.Core.Path.{◌≡◌}
use Prim.Native.Nat.{◌+◌, ◌*◌}
use lib.ListN.{length}
use Rattle.tables.specs.Base.{at, count}
use Rattle.tables.specs.Rule.{test}
use Rattle.tables.specs.Turn.{Passed}
use Rattle.rules.specs.Passes.{Prefix, held_entries, live_page}
use Rattle.rules.proofs.rows.active_row.Given as goal

abbrev pub invariant-loop-p : goal.invariant-loop-p
invariant-loop-p l =
    Passed l.p (λ k. held_entries l.s l.active (at l.maps (l.s * l.pages + k)) (at l.addresses (l.s * l.pages + k)) (at l.states) (at l.owners))
    × Prefix l.records (l.s * l.pages + l.pages) (at l.addresses) (length l.initial.marks) l.marks (l.s * l.pages + l.p)
    × (l.used ≡ count l.p (λ k. test (live_page (at l.addresses (l.s * l.pages + k)) (at l.states))))
