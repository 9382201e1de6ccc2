-- `ask_away` meets its contract: the first frame that has the page is the only one.
use mathlib.Core.Path.{ap, sym, ◌∙◌}
use native.Mathlib.Omega.{arith}
use Prim.Native.Nat.{◌<◌, ◌≤◌}
use mathlib.Core.List.{List}
use Rattle.tables.specs.Questions.{yes_all}
use Rattle.model.specs.State.{frame_at}
use Rattle.model.specs.Laws.Own.{first_yes, first_no_holds}
use Rattle.model.specs.declared.frame.Frame.{Frame}
use Rattle.leaves.specs.FrameLaws.{frame_in, is_still}
use Rattle.leaves.specs.Packed.{unpacked}
use Rattle.pages.proofs.ItsFrame.{its_none, its_some, its_tells, its_told, its_void}
use Rattle.pages.proofs.supply.ask_away.Goals as goal

pub returns-then-f-sizes : goal.returns-then-f-sizes
returns-then-f-sizes c =
    let fs : List Frame = unpacked c.args.frames.now in
    let a = c.args in
    let h : a.sizes.frames ≤ frame_in a.sizes.frames fs a.page = omega (arith, c.frame_of-f.ensures, c.if-f-sizes.true) in
    sym (yes_all _ (its_void a.sizes fs a.page h is_still, (its_none a.sizes fs a.page h, tt)))

pub returns-then-frame-ne-NONE : goal.returns-then-frame-ne-NONE
returns-then-frame-ne-NONE c =
    let fs : List Frame = unpacked c.args.frames.now in
    let a = c.args in
    let h : frame_in a.sizes.frames fs a.page < a.sizes.frames = omega (arith, c.frame_of-f.ensures, c.if-f-sizes.false) in
    let e = c.frame_at-frame.ensures ∙ ap (frame_at fs) c.frame_of-f.ensures in
    sym (first_no_holds 14 _ _ (λ k. c.if-frame-ne-NONE.true (rw e (its_tells a.sizes fs a.page h is_still k))))

pub returns : goal.returns
returns c =
    let fs : List Frame = unpacked c.args.frames.now in
    let a = c.args in
    let h : frame_in a.sizes.frames fs a.page < a.sizes.frames = omega (arith, c.frame_of-f.ensures, c.if-f-sizes.false) in
    let e = c.frame_at-frame.ensures ∙ ap (frame_at fs) c.frame_of-f.ensures in
    sym (first_yes 14 _ _ (its_told a.sizes fs a.page h c.requires.0 is_still (rw (sym e) c.if-frame-ne-NONE.false)) ∙ first_no_holds 15 _ _ (λ k. k (its_some a.sizes fs a.page h)))
