-- `leave_pages` meets its contract: the turns of its loop are those of the two stores.
use mathlib.Core.Path.{◌∙◌}
use native.Mathlib.Omega.{arith}
use Rattle.tables.specs.StoreLoops.{turned_none, turned_all, part_inside}
use Rattle.tables.specs.StoreNamed.{named_none, named_all}
use Rattle.leaves.specs.Packed.{unpacked}
use Rattle.writeback.proofs.Leaves.{may, turn_leaves, turn_stays}
use Rattle.writeback.proofs.update.leave_pages.Goals as goal
use Rattle.writeback.proofs.update.leave_pages.Goals.{then-address-ne0, else-address-ne0}

pub loop-i-init : goal.loop-i-init
loop-i-init c =
    let a = c.args in record {
      turned = turned_none _ _ _ _ (λ i h. omega (arith, part_inside a.sizes.pages a.slot c.requires.pages_some i h.0));
      named = named_none _ _ _ _ _ _ (λ i h. omega (arith, part_inside a.sizes.pages a.slot c.requires.pages_some i h.0));
    }

pub move_record-requires : goal.move_record-requires
move_record-requires c =
    may (unpacked c.args.frames.now) c.requires c.loop-i.i c.loop-i.invariant c.loop-i.auto.i c.loop-i-test.true c.leaving_of-address.ensures c.if-address-ne0.true

pub loop-i-preserved : goal.loop-i-preserved
loop-i-preserved c =
    let a = c.args in
    elim c.if-address-ne0.branch [
      | then-address-ne0 w ↦
          turn_leaves (unpacked a.frames.now) c.requires c.loop-i.i c.loop-i.invariant c.loop-i.auto.i c.loop-i-test.true c.leaving_of-address.ensures w.if-address-ne0.true w.addresses-is
          (w.states-is ∙ w.move_record.ensures)
      | else-address-ne0 w ↦
          turn_stays (unpacked a.frames.now) c.requires c.loop-i.i c.loop-i.invariant c.loop-i.auto.i c.loop-i-test.true c.leaving_of-address.ensures w.if-address-ne0.false w.addresses-is w.states-is
    ]

pub returns : goal.returns
returns c =
    let a = c.args in (
      turned_all _ c.loop-i.invariant.turned (λ i h k. omega (arith, part_inside a.sizes.pages a.slot c.requires.pages_some i k.0)),
      named_all c.loop-i.i c.loop-i.invariant.named (λ i h k. omega (arith, part_inside a.sizes.pages a.slot c.requires.pages_some i k.0)),
    )
