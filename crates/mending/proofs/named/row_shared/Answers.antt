-- `row_shared` meets its contract: the invariant is `RowTo`, the row before page p.
use Prim.Native.Nat.{◌+◌, ◌*◌}
use native.Mathlib.Omega.{arith}
use Rattle.tables.specs.Base.{at}
use Rattle.tables.specs.Turn.{said_yes, said_no}
use Rattle.mending.specs.Passes.{of_shared, row_next, Lost, left, lost_as, lost_by}
use Rattle.mending.proofs.named.row_shared.Goals as goal
use Rattle.mending.proofs.named.row_shared.Goals.{then-is_shared, else-is_shared}

pub lose_entry-count-requires : goal.lose_entry-count-requires
lose_entry-count-requires c =
    (omega (arith, c.requires.inside, c.loop-p.invariant.long), c.requires.slot_few, omega (arith, c.requires.inside, c.requires.few), omega (arith, (said_yes (of_shared c.args.named.now (at c.loop-p.maps (c.args.s * c.args.pages + c.loop-p.p))) c.is_shared.ensures c.if-is_shared.true).1), omega (arith, c.requires.room, c.loop-p.invariant.kept, c.loop-p.invariant.list_long))

pub loop-p-preserved : goal.loop-p-preserved
loop-p-preserved c =
    let i = c.args.s * c.args.pages + c.loop-p.p in
    let gone : Lost (of_shared c.args.named.now (at c.loop-p.maps i)) 5 c.args.s c.loop-p.p i c.loop-p.maps c.if-is_shared.maps c.loop-p.changes c.if-is_shared.changes c.loop-p.count c.if-is_shared.count = elim c.if-is_shared.branch [
      | then-is_shared w ↦ lost_by (lost_as (said_yes (of_shared c.args.named.now (at c.loop-p.maps i)) c.is_shared.ensures w.if-is_shared.true) w.lose_entry-count.ensures) w.maps-is w.changes-is w.count-is
      | else-is_shared w ↦ left (said_no (of_shared c.args.named.now (at c.loop-p.maps i)) c.is_shared.ensures w.if-is_shared.false) w.maps-is w.changes-is w.count-is
    ] in
    row_next c.requires.inside (omega arith) (λ e h o. omega (arith, h.1, o)) gone c.loop-p.invariant
