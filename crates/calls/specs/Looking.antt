-- A page look once questions 1 and 2 are asked: what the look by its own questions needs and gives, and the part that its numbers tell.
use Rattle.std.specs.Prelude.{◌≡◌, List, [], ℕ, ◌+◌, ◌-◌, take, drop}
use Rattle.std.proofs.Math.Path.{refl, ap}
use Rattle.std.proofs.Common.{sym, subst, ◌∙◌, arith}
use Rattle.tables.specs.Rule.{Holds}
use Rattle.model.specs.declared.sizes.Sizes.{Sizes}
use Rattle.model.specs.declared.frame.Frame.{Frame}
use Rattle.model.specs.declared.applied.Part.{Part}
use Rattle.model.specs.State.{State}
use Rattle.model.specs.Rules.{all_rules}
use Rattle.model.specs.Laws.Ruled.{ruled}
use Rattle.model.specs.Questions.{look_questions}
use Rattle.model.specs.Parts.{frame_of}
use Rattle.model.specs.Pages.{look_start}
use Rattle.model.specs.Step.{all_fit, look}
use Rattle.model.specs.Laws.Fit.{fit}
use Rattle.model.specs.Part.{part, part_of, word_at, part_look, part_refusal}
use Rattle.pages.specs.Seen.{seen}
use Rattle.pages.specs.Needs.{Seats}
use Rattle.pages.specs.Looks.{placed}
use Rattle.calls.specs.Common.{common, common_passes}

module _ (z : Sizes) (st : State) where
  -- no page is in two frames
  pub seats : Holds (all_fit z st) → Holds (all_rules z st) → (fs : List Frame) → st.memory.core.frames ≡ fs → Seats z fs
  seats f r fs e = subst (Seats z) e (record { sizes = (fit z st f).sizes; seated = (ruled z st r).frames.once })

  module _ (s p : ℕ) where
    -- it looks at the frames, the numbers and the active switches alone
    seen_part : placed z (seen st.memory.core.frames st.disk.numbers [] [] st.memory.slots.active) s p ≡ placed z st s p
    unfolding placed look_start frame_of
    seen_part = refl

    own_part : common z st ≡ 0 → placed z st s p ≡ part_of z st s p
    unfolding placed part_of
    own_part e = ap (λ (n : ℕ). part n (look_start z st s p) z.words) (sym (common_passes z st (look_questions z st s p) e))

    pub placed_part : (fs : List Frame) → st.memory.core.frames ≡ fs → common z st ≡ 0 → (x : Part) → x ≡ placed z (seen fs st.disk.numbers [] [] st.memory.slots.active) s p → x ≡ part_of z st s p
    placed_part fs e c x q = q ∙ ap (λ (l : List Frame). placed z (seen l st.disk.numbers [] [] st.memory.slots.active) s p) (sym e) ∙ seen_part ∙ own_part c

    -- the part of the words that the numbers tell is the look's
    pub part_looked : (x : Part) (at : ℕ × ℕ) → x ≡ part_of z st s p
        → (take (x.start + x.count - x.start) (drop x.start st.memory.core.words) ≡ (look z st s p).left) × ((x.refusal ≡ (look z st s p).answer.refusal) × (word_at at x.start ≡ word_at at (part_of z st s p).start))
    part_looked x at e =
        let k : x.start + x.count - x.start ≡ x.count = omega arith in (
          ap (λ (n : ℕ). take n (drop x.start st.memory.core.words)) k ∙ ap (λ (y : Part). take y.count (drop y.start st.memory.core.words)) e ∙ sym (part_look z st s p),
          (ap (λ (y : Part). y.refusal) e ∙ sym (part_refusal z st s p), ap (λ (y : Part). word_at at y.start) e),
        )
