-- The model's frames are the first F of the 64 that the code holds: what is asked, read and stored there.
use Rattle.std.specs.Prelude.{◌≡◌, List, ℕ, suc, ◌<◌, eqb, take, set}
use Rattle.std.proofs.Common.{ap, sym, ◌∙◌, arith, length-take, get_or-take}
use Rattle.std.proofs.Math.Decide.{dec_lt}
use Rattle.std.proofs.lemmas.List.{take-set-le}
use Rattle.std.proofs.Math.Seq.{take-set-lt, set_out}
use Rattle.tables.specs.Base.{find}
use Rattle.tables.specs.FindLaws.{find_same}
use Rattle.tables.specs.Rule.{Rule, same, non}
use Rattle.model.specs.declared.sizes.Sizes.{Sizes}
use Rattle.model.specs.declared.frame.Frame.{Frame}
use Rattle.model.specs.State.{Frames, frames, frame_at, NONE}
use Rattle.model.specs.Setters.{on_core, set_frames}
use Rattle.model.specs.Lent.{no_state}
use Rattle.model.specs.Parts.{frame_of}

-- the frame that a page is in, the first of n, or n where it is in none: `frame_of` over the frames that the code holds
abbrev pub frame_in : ℕ → List Frame → ℕ → ℕ
frame_in n fs i = find n (λ f. eqb (frame_at fs f).page (suc i)) 0

-- the look-ups of the frames alone
abbrev pub frames_of : List Frame → Frames
frames_of fs = frames (on_core (set_frames fs) no_state)

-- a frame in no transfer
abbrev pub is_still : Frame → Rule
is_still g = same g.transfer NONE

-- a frame not wired
abbrev pub is_unwired : Frame → Rule
is_unwired g = non (same g.wired 1)

pub frame_take : (n : ℕ) (fs : List Frame) (f : ℕ) → f < n → frame_at (take n fs) f ≡ frame_at fs f
frame_take n fs f h = get_or-take n fs f _ h

pub take_frame : (n : ℕ) (fs : List Frame) (f : ℕ) (g : Frame) → take n (set fs f g) ≡ set (take n fs) f g
take_frame n fs f g = elim (dec_lt f n) [ yes h ↦ take-set-lt n fs f g h | no h ↦ take-set-le n fs f g (omega arith) ∙ sym (set_out (take n fs) f g (simp length-take (omega arith))) ]

-- the frame of a page, where the look-ups of the frames agree with the code's
pub frame_found : (z : Sizes) (c : Frames) (fs : List Frame) (i : ℕ) → ((f : ℕ) → f < z.frames → c.frame f ≡ frame_at fs f) → frame_in z.frames fs i ≡ frame_of z c i
unfolding frame_of
frame_found z c fs i e = find_same z.frames (λ f. eqb (frame_at fs f).page (suc i)) (λ f. eqb (c.frame f).page (suc i)) 0 (λ f h l. ap (λ (g : Frame). eqb g.page (suc i)) (sym (e f (omega arith))))
