-- `ask_done` meets its contract: the first question that fails.
use mathlib.Core.Path.{ap, sym, ◌∙◌}
use mathlib.Core.Logic.{⊎_elim}
use native.Mathlib.Omega.{arith}
use Rattle.tables.specs.Questions.{yes_all}
use Rattle.model.specs.declared.frame.Frame.{Frame}
use Rattle.model.specs.Laws.Own.{first_yes, first_no_holds}
use Rattle.leaves.specs.FrameLaws.{frame_take}
use Rattle.leaves.specs.Packed.{unpacked}
use Rattle.writeback.proofs.page_done.ask_done.Goals as goal

pub returns-then-frame-sizes : goal.returns-then-frame-sizes
returns-then-frame-sizes c = sym (first_no_holds 3 _ _ (λ h. ⊎_elim (λ x. omega (arith, x, h.0)) (λ y. omega (arith, y, h.1)) c.then-frame-sizes.either))

pub returns-then-asked-eq-NONE : goal.returns-then-asked-eq-NONE
returns-then-asked-eq-NONE c =
    sym (first_yes 3 _ _ (omega arith, omega arith)
    ∙ first_no_holds 22 _ _ (λ h. h (ap (λ (g : Frame). g.transfer) (frame_take c.args.sizes.frames (unpacked c.args.frames.now) c.args.frame (omega arith) ∙ sym c.frame_at-asked.ensures) ∙ c.if-asked-eq-NONE.true)))

pub returns : goal.returns
returns c =
    sym (yes_all _ ((omega arith, omega arith), (λ e. c.if-asked-eq-NONE.false (ap (λ (g : Frame). g.transfer) (c.frame_at-asked.ensures ∙ sym (frame_take c.args.sizes.frames (unpacked c.args.frames.now) c.args.frame (omega arith))) ∙ e), tt)))
