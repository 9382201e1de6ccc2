-- `ask_frames` meets its contract: of the frames passed none is in a transfer, and the answer so far says whether one of them is wired.
use mathlib.Core.Path.{◌≡◌, ap, sym, ◌∙◌}
use mathlib.Core.Bool.{Bool, true, false}
use mathlib.Core.Logic.{inl, inr}
use mathlib.Core.List.{List}
use Prim.Native.Nat.{ℕ, ◌-◌, ◌*◌, ◌<◌}
use native.Mathlib.Omega.{arith}
use Rattle.tables.specs.Questions.{first_no, yes_all}
use Rattle.tables.specs.Rule.{Holds}
use Rattle.model.specs.declared.frame.Frame.{Frame}
use Rattle.model.specs.State.{frame_at}
use Rattle.model.specs.Laws.Own.{first_yes, first_no_holds}
use Rattle.leaves.specs.Packed.{unpacked}
use Rattle.writeback.specs.Truncate.{quiet, all_quiet, ask_frames}
use Rattle.writeback.proofs.Cut.{not_false}
use Rattle.writeback.proofs.truncate.ask_frames.Invariants.{Cut, QuietBelow, AskedBelow}
use Rattle.writeback.proofs.truncate.ask_frames.Goals as goal

module _ (pages slot k : ℕ) (fs : List Frame) (n : ℕ) where
  to_all : (w : ℕ) → QuietBelow w pages slot k fs n → Holds (all_quiet w n pages slot k fs)
  to_all w g p h d f b e = g f b (omega (arith, e, d), omega (arith, e, h))

  of_all : (w f : ℕ) → f < n → Cut pages slot k (frame_at fs f) → Holds (all_quiet w n pages slot k fs) → Holds (quiet w (frame_at fs f))
  of_all w f b c h = h ((frame_at fs f).page - 1 - slot * pages) (omega (arith, c.0, c.1)) (λ l. omega (arith, l, c.0)) f b (omega (arith, c.0))

  moving : (f : ℕ) → f < n → Cut pages slot k (frame_at fs f) → ¬ ((frame_at fs f).transfer ≡ 0) → 14 ≡ first_no (ask_frames n pages slot k fs)
  moving f b c d = sym (first_no_holds 14 _ _ (λ h. d (of_all 0 f b c h)))

  all_still : {w : Bool} → AskedBelow pages slot k fs n w → w ≡ false → 0 ≡ first_no (ask_frames n pages slot k fs)
  all_still t e = elim t.wired [
    | inl x ↦ sym (yes_all (ask_frames n pages slot k fs) (to_all 0 t.still, (to_all 1 x.1, tt)))
    | inr x ↦ not_false (sym x.0 ∙ e)
  ]

  one_wired : {w : Bool} → AskedBelow pages slot k fs n w → w ≡ true → 16 ≡ first_no (ask_frames n pages slot k fs)
  one_wired t e = elim t.wired [
    | inl x ↦ not_false (sym e ∙ x.0)
    | inr x ↦ sym (first_yes 14 _ _ (to_all 0 t.still) ∙ first_no_holds 16 _ _ (λ h. of_all 1 x.1.0 x.1.1 x.1.2 h x.1.3))
  ]

pub returns-then-frame-ne-NONE : goal.returns-then-frame-ne-NONE
returns-then-frame-ne-NONE c =
    let a = c.args in
    let page = ap (λ (g : Frame). g.page) c.frame_at-frame.ensures in record {
      answer = moving a.pages a.slot a.k (unpacked a.frames.now) a.count c.loop-f.f (omega arith) (omega (arith, page, c.if-page-start.true), omega (arith, page, c.if-page-start-2.true))
          (λ e. c.if-frame-ne-NONE.true (ap (λ (g : Frame). g.transfer) c.frame_at-frame.ensures ∙ e));
      any = tt;
    }

pub returns-then-wired : goal.returns-then-wired
returns-then-wired c =
    let a = c.args in
    let e : c.loop-f.f ≡ a.count = omega arith in
    record { answer = one_wired a.pages a.slot a.k (unpacked a.frames.now) a.count (rw e at c.loop-f.invariant.asked) c.if-wired.true; any = tt }

pub returns : goal.returns
returns c =
    let a = c.args in
    let e : c.loop-f.f ≡ a.count = omega arith in
    record {
      answer = all_still a.pages a.slot a.k (unpacked a.frames.now) a.count (rw e at c.loop-f.invariant.asked) c.if-wired.false;
      any = λ q f h y. c.loop-f.invariant.found q f (omega arith) (y.0, omega (arith, y.1));
    }
