use Prim.Native.Nat.{◌+◌, ◌*◌}
use lib.ListN.{length}
use Rattle.tables.specs.Base.{at}
use Rattle.tables.specs.Turn.{Passed}
use Rattle.rules.specs.Passes.{Prefix, imaged_entries}
use Rattle.rules.proofs.rows.image_row.Given as goal

abbrev pub invariant-loop-p : goal.invariant-loop-p
invariant-loop-p l =
    Passed l.p (λ k. imaged_entries l.s l.updating (at l.addresses (l.s * l.pages + k)) (at l.images (l.s * l.pages + k)) (at l.states) (at l.owners))
    × Prefix l.records (l.s * l.pages + l.pages) (at l.images) (length l.initial.marks) l.marks (l.s * l.pages + l.p)
