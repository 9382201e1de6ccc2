-- `cut_pages` meets its contract: the turns of its loop are those of the count and of the two stores.
use mathlib.Core.Path.{◌∙◌}
use mathlib.Core.Logic.{inl, inr}
use native.Mathlib.Omega.{arith}
use Rattle.writeback.proofs.CutPages.{pass_starts, may_release, turn_cuts, turn_leaves, all_counted, all_released, all_cleared}
use Rattle.writeback.proofs.cut_pages.cut_pages.Goals as goal
use Rattle.writeback.proofs.cut_pages.cut_pages.Goals.{then-address-ne0, then-at-eq-LIVE, else-at-eq-LIVE, else-address-ne0}

pub loop-i-init : goal.loop-i-init
loop-i-init c = pass_starts c.requires

pub move_record-requires : goal.move_record-requires
move_record-requires c =
    may_release c.requires c.loop-i.invariant c.loop-i.auto.i c.loop-i-test.true c.if-address-ne0.true

pub loop-i-preserved : goal.loop-i-preserved
loop-i-preserved c = elim c.if-address-ne0.branch [
  | then-address-ne0 w ↦
      turn_cuts c.requires c.loop-i.invariant c.loop-i.auto.i c.loop-i-test.true w.if-address-ne0.true w.at.ensures
      (elim w.if-at-eq-LIVE.branch [ then-at-eq-LIVE v ↦ inl (v.if-at-eq-LIVE.true, w.n-is ∙ v.n-is) | else-at-eq-LIVE v ↦ inr (v.if-at-eq-LIVE.false, w.n-is ∙ v.n-is) ])
      w.addresses-is (w.states-is ∙ w.move_record.ensures)
  | else-address-ne0 w ↦ turn_leaves c.requires c.loop-i.invariant c.loop-i.auto.i c.loop-i-test.true w.if-address-ne0.false w.addresses-is w.states-is w.n-is
]

pub returns : goal.returns
returns c =
    record {
      live = all_counted c.requires c.loop-i.invariant (omega arith) (omega arith);
      states = all_released c.requires c.loop-i.invariant (omega arith) (omega arith);
      addresses = all_cleared c.requires c.loop-i.invariant (omega arith) (omega arith);
    }
