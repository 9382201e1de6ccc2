-- `ask_frame` meets its contract: the first frame that has the page is the only one.
use mathlib.Core.Path.{ap, sym, ◌∙◌}
use native.Mathlib.Omega.{arith}
use Prim.Native.Nat.{◌<◌}
use Rattle.tables.specs.Questions.{yes_all}
use Rattle.tables.specs.Rule.{sound, complete}
use Rattle.model.specs.State.{frame_at}
use Rattle.model.specs.Laws.Own.{first_yes, first_no_holds}
use Rattle.pages.proofs.ItsFrame.{its_none, its_some, its_tells, its_told}
use Rattle.leaves.specs.FrameLaws.{frame_in}
use Rattle.leaves.specs.Packed.{unpacked}
use Rattle.pages.specs.Asks.{is_quiet}
use Rattle.pages.proofs.asks.ask_frame.Goals as goal

pub returns-then-frame-sizes : goal.returns-then-frame-sizes
returns-then-frame-sizes c =
    let a = c.args in
    record {
      answer = sym (first_no_holds 13 _ _ (its_none a.sizes (unpacked a.frames.now) a.page (rw (sym c.frame_of-frame.ensures) c.if-frame-sizes.true)));
      frame = c.frame_of-frame.ensures;
    }

pub returns-then-not-is_quiet : goal.returns-then-not-is_quiet
returns-then-not-is_quiet c =
    let a = c.args in
    let h : frame_in a.sizes.frames (unpacked a.frames.now) a.page < a.sizes.frames = omega (arith, c.frame_of-frame.ensures, c.if-frame-sizes.false) in
    let e = c.frame_at.ensures ∙ ap (frame_at (unpacked a.frames.now)) c.frame_of-frame.ensures in
    let t = sym c.is_quiet.ensures ∙ c.if-not-is_quiet.true in
    record {
      answer = sym (first_yes 13 _ _ (its_some a.sizes (unpacked a.frames.now) a.page h) ∙ first_no_holds 14 _ _ (λ k. rw t at (complete (is_quiet a.reads c.frame_at.result) (rw e (its_tells a.sizes (unpacked a.frames.now) a.page h (is_quiet a.reads) k)))));
      frame = c.frame_of-frame.ensures;
    }

pub returns : goal.returns
returns c =
    let a = c.args in
    let h : frame_in a.sizes.frames (unpacked a.frames.now) a.page < a.sizes.frames = omega (arith, c.frame_of-frame.ensures, c.if-frame-sizes.false) in
    let e = c.frame_at.ensures ∙ ap (frame_at (unpacked a.frames.now)) c.frame_of-frame.ensures in
    let t = sym c.is_quiet.ensures ∙ c.if-not-is_quiet.false in
    record {
      answer = sym (yes_all _ (its_some a.sizes (unpacked a.frames.now) a.page h, (its_told a.sizes (unpacked a.frames.now) a.page h c.requires.0 (is_quiet a.reads) (rw (sym e) (sound (is_quiet a.reads c.frame_at.result) (rw t tt))), tt)));
      frame = c.frame_of-frame.ensures;
    }
