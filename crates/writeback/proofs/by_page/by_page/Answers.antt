-- `by_page` meets its contract: the frames passed are in the table.
use mathlib.Core.Path.{ap}
use native.Mathlib.Omega.{arith}
use Rattle.model.specs.declared.frame.Frame.{Frame}
use Rattle.writeback.proofs.ByPage.{passed, stored}
use Rattle.writeback.proofs.by_page.by_page.Goals as goal
use Rattle.writeback.proofs.by_page.by_page.Goals.{then-page-start+then-page-start-2, else-page-start, else-page-start-via-then-page-start+else-page-start-2, else-page-start-via-else-page-start}

pub loop-f-preserved : goal.loop-f-preserved
loop-f-preserved c =
    let e = ap (λ (v : Frame). v.page) c.frame_at-frame.ensures in
    elim c.if-page-start.branch [
      | then-page-start+then-page-start-2 w ↦ stored _ _ _ c.loop-f.f c.loop-f.invariant c.requires.1 (omega (arith, w.if-page-start.true, e)) (omega (arith, w.if-page-start-2.true, e)) (rw (← e) w.table-is)
      | else-page-start w ↦ passed _ _ _ c.loop-f.f c.loop-f.invariant
          (λ a b. elim w.else-page-start.branch [
            | else-page-start-via-then-page-start+else-page-start-2 v ↦ omega (arith, a, b, v.if-page-start-2.false, e)
            | else-page-start-via-else-page-start v ↦ omega (arith, a, b, v.if-page-start.false, e)
          ])
          w.table-is
    ]
