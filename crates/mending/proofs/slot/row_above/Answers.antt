-- `row_above` meets its contract: the invariant is `RowTo`, the row before page p.
use Prim.Native.Nat.{◌+◌, ◌*◌}
use native.Mathlib.Omega.{arith}
use Rattle.tables.specs.Base.{at}
use Rattle.mending.specs.Passes.{above, row_next, Lost, left, lost_as, lost_by}
use Rattle.mending.proofs.slot.row_above.Goals as goal
use Rattle.mending.proofs.slot.row_above.Goals.{then-most-from, else-most-from}

pub loop-p-preserved : goal.loop-p-preserved
loop-p-preserved c =
    let i = c.args.s * c.args.pages + c.loop-p.p in
    let gone : Lost (above c.args.most (at c.loop-p.maps i)) c.args.reason c.args.s c.loop-p.p i c.loop-p.maps c.if-most-from.maps c.loop-p.changes c.if-most-from.changes c.loop-p.count c.if-most-from.count = elim c.if-most-from.branch [
      | then-most-from w ↦ lost_by (lost_as (omega (arith, c.from.ensures, w.if-most-from.true)) w.lose_entry-count.ensures) w.maps-is w.changes-is w.count-is
      | else-most-from w ↦ left (λ h. omega (arith, h, c.from.ensures, w.if-most-from.false)) w.maps-is w.changes-is w.count-is
    ] in
    row_next c.requires.inside (omega arith) (λ e h o. omega (arith, h, o)) gone c.loop-p.invariant
