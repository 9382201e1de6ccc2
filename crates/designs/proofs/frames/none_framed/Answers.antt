-- `none_framed` meets its contract: no frame passed has a page of the slot.
use mathlib.Core.Path.{◌≡◌, ap, sym}
use native.Mathlib.Omega.{arith}
use Prim.Native.Nat.{◌+◌, ◌-◌, ◌*◌}
use Rattle.tables.specs.Rule.{told, untold}
use Rattle.model.specs.declared.frame.Frame.{Frame}
use Rattle.model.specs.State.{frame_at}
use Rattle.leaves.specs.Packed.{unpacked}
use Rattle.designs.specs.Asks.{unframed}
use Rattle.designs.proofs.Tests.{two_yes}
use Rattle.designs.proofs.frames.none_framed.Goals as goal

pub returns-then-start-page : goal.returns-then-start-page
returns-then-start-page c =
    let page : (c.frame_at-frame.result.page ≡ (frame_at (unpacked c.args.frames.now) c.loop-f.f).page) = ap (λ (x : Frame). x.page) c.frame_at-frame.ensures in
    let a = c.args in
    let e = c.frame_at-frame.result.page in
    let b = a.slot * a.pages in
    let y = two_yes b e e (b + a.pages + 1) c.if-start-page.true in
    sym (untold (unframed a.count (unpacked a.frames.now) a.pages a.slot) (λ h. h (e - b - 1) (omega (arith, y.0, y.1)) (c.loop-f.f, omega arith, omega (arith, page, y.0))))

pub returns : goal.returns
returns c =
    let a = c.args in
    sym (told (unframed a.count (unpacked a.frames.now) a.pages a.slot) (λ p h (f, m, e). c.loop-f.invariant f (omega arith) (omega (arith, e), omega (arith, e))))
