-- The invariant: the pages of the first f frames that count by these are counted too.
use mathlib.Core.Path.{◌≡◌, ap, ◌∙◌}
use native.Mathlib.Omega.{arith}
use Rattle.model.specs.State.{frame_at}
use Rattle.model.specs.Laws.Woven.{woven_page, woven_least}
use Rattle.leaves.specs.Packed.{unpacked}
use Rattle.rules.proofs.Charges.{tallied_none, tallied_next, tallied_few, tallied_all}
use Rattle.accounts.proofs.count.count_frames.Goals as goal

pub loop-f-init : goal.loop-f-init
loop-f-init c = tallied_none _ _ _ _ _ _ c.requires.5

pub charge-requires : goal.charge-requires
charge-requires c =
    let woven : (c.woven_page.result ≡ woven_page (frame_at (unpacked c.args.frames.now) c.loop-f.f)) = c.woven_page.ensures ∙ ap woven_page c.frame_at.ensures in
    let p = c.requires.2 c.loop-f.f c.loop-f-test.true in
    let x = frame_at (unpacked c.args.frames.now) c.loop-f.f in
    (c.requires.1, omega (arith, woven, woven_least x p.0), omega (arith, woven, woven_least x p.1), c.requires.3, c.requires.4, c.loop-f.invariant.sized, tallied_few _ _ _ _ _ _ _ _ c.loop-f.invariant (omega (arith, c.loop-f-test.true, c.requires.0)) c.requires.6)

pub loop-f-preserved : goal.loop-f-preserved
loop-f-preserved c =
    let woven : (c.woven_page.result ≡ woven_page (frame_at (unpacked c.args.frames.now) c.loop-f.f)) = c.woven_page.ensures ∙ ap woven_page c.frame_at.ensures in
    tallied_next _ _ _ _ _ _ _ _ c.loop-f.invariant _ c.charge.auto.totals (rw woven at c.charge.ensures)

pub returns : goal.returns
returns c = tallied_all _ _ _ _ _ _ _ _ c.loop-f.invariant _ c.loop-f.auto.f-end (omega (arith, c.loop-f-test.false))
