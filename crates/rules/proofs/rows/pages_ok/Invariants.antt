use Prim.Native.Nat.{◌*◌}
use lib.ListN.{length}
use Rattle.tables.specs.Base.{at}
use Rattle.tables.specs.Turn.{Passed}
use Rattle.rules.specs.Passes.{Prefix}
use Rattle.rules.proofs.ByRow.{row}
use Rattle.rules.proofs.Tally.{Totals}
use Rattle.rules.proofs.rows.pages_ok.Given as goal

abbrev pub invariant-loop-s : goal.invariant-loop-s
invariant-loop-s l =
    Passed l.s (row l.slots l.pages l.records l.active l.updating l.maps l.addresses l.images l.states l.owners)
    × Prefix l.records (length l.maps) (at l.addresses) (length l.initial.marks) l.marks (l.s * l.pages)
    × Prefix l.records (length l.addresses) (at l.images) (length l.initial.image_marks) l.image_marks (l.s * l.pages)
    × Totals l.pages l.accounts l.active l.maps l.addresses l.states l.slots l.totals l.s
