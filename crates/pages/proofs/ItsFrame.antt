-- Where a page is in one frame at most: the questions about its frames, by the first that has it.
use mathlib.Core.Path.{◌≡◌, ap, sym, ◌∙◌}
use mathlib.Core.Logic.{inl, inr}
use mathlib.Core.List.{List}
use Prim.Native.Nat.{ℕ, suc, ◌<◌, ◌≤◌}
use native.Mathlib.Omega.{arith}
use lib.Dec.{eqb, eqb→eq}
use native.Mathlib.Decide.{dec_lt}
use lib.ListN.{take, set}
use Rattle.tables.specs.FindLaws.{find_cases}
use Rattle.tables.specs.Laws.{eq→T}
use Rattle.tables.specs.Rule.{Rule, Holds}
use Rattle.model.specs.declared.sizes.Sizes.{Sizes}
use Rattle.model.specs.declared.frame.Frame.{Frame}
use Rattle.model.specs.State.{Frames, frame_at, framed}
use Rattle.model.specs.Parts.{frame_of}
use Rattle.leaves.specs.FrameLaws.{frame_take, take_frame, frame_found, frame_in, frames_of}
use Rattle.pages.specs.Asks.{of_frame}
use Rattle.pages.specs.Needs.{Seats}

module _ (z : Sizes) (fs : List Frame) (i : ℕ) where
  pub its_none : z.frames ≤ frame_in z.frames fs i → ¬ Holds (framed z (frames_of (take z.frames fs)) i)
  its_none h (f, l, e) = elim (find_cases z.frames (λ f. eqb (frame_at fs f).page (suc i)) 0) [
    | inl r ↦ omega (arith, r.inside)
    | inr r ↦ r.1 f (omega arith) (omega arith) (eq→T (ap (λ (g : Frame). g.page) (sym (frame_take z.frames fs f l)) ∙ e))
  ]

  module _ (h : frame_in z.frames fs i < z.frames) where
    pub its_page : (frame_at fs (frame_in z.frames fs i)).page ≡ suc i
    its_page = elim (find_cases z.frames (λ f. eqb (frame_at fs f).page (suc i)) 0) [ inl r ↦ eqb→eq _ _ r.passes | inr r ↦ absurd (omega (arith, r.0)) ]

    taken : frame_at (take z.frames fs) (frame_in z.frames fs i) ≡ frame_at fs (frame_in z.frames fs i)
    taken = frame_take z.frames fs (frame_in z.frames fs i) h

    there : (frame_at (take z.frames fs) (frame_in z.frames fs i)).page ≡ suc i
    there = ap (λ (g : Frame). g.page) taken ∙ its_page

    pub its_some : Holds (framed z (frames_of (take z.frames fs)) i)
    its_some = (frame_in z.frames fs i, h, there)

    pub its_tells : (rule : Frame → Rule) → Holds (of_frame z (take z.frames fs) i rule) → Holds (rule (frame_at fs (frame_in z.frames fs i)))
    its_tells rule k = rw taken at (k (frame_in z.frames fs i) h there)

    pub its_told : Seats z (take z.frames fs) → (rule : Frame → Rule) → Holds (rule (frame_at fs (frame_in z.frames fs i))) → Holds (of_frame z (take z.frames fs) i rule)
    its_told s rule k f l e = rw (← (s.seated (frame_in z.frames fs i) h f l i there e), taken) k

  pub its_void : z.frames ≤ frame_in z.frames fs i → (rule : Frame → Rule) → Holds (of_frame z (take z.frames fs) i rule)
  its_void h rule f l e = absurd (its_none h (f, l, e))

  pub its_in : Holds (framed z (frames_of (take z.frames fs)) i) → frame_in z.frames fs i < z.frames
  its_in h = elim (dec_lt (frame_in z.frames fs i) z.frames) [ yes l ↦ l | no l ↦ absurd (its_none (omega arith) h) ]

  -- the model's frame of the page, and that frame changed
  module _ (c : Frames) (e : (f : ℕ) → f < z.frames → c.frame f ≡ frame_at (take z.frames fs) f) where
    pub its_found : frame_in z.frames fs i ≡ frame_of z c i
    its_found = frame_found z c fs i (λ f l. e f l ∙ frame_take z.frames fs f l)

    -- f and g are what the code reads, l what it stores
    pub its_changed : frame_in z.frames fs i < z.frames → (change : Frame → Frame) (f : ℕ) (g : Frame) (l : List Frame) → f ≡ frame_in z.frames fs i → g ≡ frame_at fs f → l ≡ set fs f (change g)
        → take z.frames l ≡ set (take z.frames fs) (frame_of z c i) (change (frame_at (take z.frames fs) (frame_of z c i)))
    its_changed h change f g l ef eg el = ap (take z.frames) (el ∙ ap (λ (x : Frame). set fs f (change x)) eg ∙ ap (λ (k : ℕ). set fs k (change (frame_at fs k))) ef)
        ∙ take_frame z.frames fs (frame_in z.frames fs i) _
        ∙ ap (λ (x : Frame). set (take z.frames fs) (frame_in z.frames fs i) (change x)) (sym (frame_take z.frames fs (frame_in z.frames fs i) h))
        ∙ ap (λ (k : ℕ). set (take z.frames fs) k (change (frame_at (take z.frames fs) k))) its_found
