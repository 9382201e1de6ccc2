-- Why a call may copy at most 64 frames of a slice of any length: a slice of 64 or less is copied whole; one of more is refused by question 1, in the array and in the slice.
--     whole     what a call leaves, from what its work leaves on the array of 64
--     kept      the same, where the work leaves the frames alone
--     alike     what a look answers
use mathlib.Core.Path.{◌≡◌, sym, ap, ◌∙◌}
use mathlib.Core.List.{List, ◌++◌, append-nil}
use Prim.Native.Nat.{ℕ, ◌≤◌, ◌<◌}
use native.Mathlib.Omega.{arith}
use native.Mathlib.Decide.{dec_le}
use lib.ListN.{length, take, drop, replicate, length-take, length-append, take-append-drop}
use lib.Seq.{take-append-le, take-take, take-length, drop-length, take_all}
use Rattle.tables.specs.Rule.{Holds}
use Rattle.model.specs.declared.frame.Frame.{Frame}
use Rattle.model.specs.declared.sizes.Sizes.{Sizes}
use Rattle.model.specs.declared.event.Answer.{Answer}
use Rattle.model.specs.State.{State, no_frame}
use Rattle.model.specs.Setters.{on_core, set_frames}
use Rattle.model.specs.Step.{Outcome, all_fit}
use Rattle.model.specs.Laws.Fit.{fit}
use Rattle.model.specs.Laws.Own.{refusal}
use Rattle.model.specs.Calls.{frames_of, length_frames, frames_of_holds}
use Rattle.keeper.specs.Copies.{capped, copied, loaded, saved}

-- the state with other frames
abbrev pub with_frames : List Frame → State → State
with_frames f st = on_core (set_frames f) st

-- ── 64 or less ──
capped_less : (n : ℕ) → n ≤ 64 → capped n ≡ n
unfolding capped
capped_less n h = omega (arith, h)

capped_more : (n : ℕ) → 64 < n → capped n ≡ 64
unfolding capped
capped_more n h = omega (arith, h)

loaded_less : (ys : List Frame) → length ys ≤ 64 → loaded ys ≡ ys ++ drop (length ys) (replicate 64 no_frame)
loaded_less ys h = ap (λ (i : ℕ). copied i ys (replicate 64 no_frame)) (capped_less (length ys) h) ∙ ap (λ (l : List Frame). l ++ drop (length ys) (replicate 64 no_frame)) (take-length ys)

pub loaded_frames : (ys : List Frame) → length ys ≤ 64 → frames_of (loaded ys) (length ys) ≡ ys
loaded_frames ys h =
    ap (λ (l : List Frame). frames_of l (length ys)) (loaded_less ys h)
    ∙ frames_of_holds (ys ++ drop (length ys) (replicate 64 no_frame)) (length ys) (simp (length-append) (omega arith))
    ∙ take-append-le (length ys) ys (drop (length ys) (replicate 64 no_frame)) (omega arith)
    ∙ take-length ys

pub saved_frames : (ys fs : List Frame) → length fs ≡ 64 → length ys ≤ 64 → frames_of fs (length ys) ≡ saved ys fs
saved_frames ys fs l h =
    frames_of_holds fs (length ys) (omega (arith, l, h))
    ∙ sym (append-nil (take (length ys) fs))
    ∙ ap (λ (x : List Frame). take (length ys) fs ++ x) (sym (drop-length ys))
    ∙ ap (λ (i : ℕ). copied i fs ys) (sym (capped_less (length ys) h))

-- ── more than 64 ──
front : (fs : List Frame) (n : ℕ) → length fs ≡ 64 → 64 < n → take 64 (frames_of fs n) ≡ fs
unfolding frames_of
front fs n l h =
    take-take 64 n (fs ++ replicate n no_frame) (omega (arith, h))
    ∙ take-append-le 64 fs (replicate n no_frame) (omega (arith, l))
    ∙ take_all 64 fs (omega (arith, l))

loaded_more : (ys : List Frame) → 64 < length ys → loaded ys ≡ take 64 ys
loaded_more ys h = ap (λ (i : ℕ). copied i ys (replicate 64 no_frame)) (capped_more (length ys) h) ∙ append-nil (take 64 ys)

loaded_length : (ys : List Frame) → 64 < length ys → length (loaded ys) ≡ 64
loaded_length ys h = ap (λ (l : List Frame). length l) (loaded_more ys h) ∙ length-take 64 ys ∙ omega (arith, h)

saved_more : (ys fs : List Frame) → 64 < length ys → length fs ≡ 64 → frames_of fs (length ys) ≡ frames_of (loaded ys) (length ys) → saved ys fs ≡ ys
saved_more ys fs h l e =
    let same : fs ≡ take 64 ys = sym (front fs (length ys) l h) ∙ ap (take 64) e ∙ front (loaded ys) (length ys) (loaded_length ys h) h ∙ loaded_more ys h in
    ap (λ (i : ℕ). copied i fs ys) (capped_more (length ys) h)
    ∙ ap (λ (x : List Frame). take 64 x ++ drop 64 ys) same
    ∙ ap (λ (x : List Frame). x ++ drop 64 ys) (take-take 64 64 ys (omega arith))
    ∙ take-append-drop 64 ys

unfit : (z : Sizes) (st : State) → 64 < length st.memory.core.frames → ¬ Holds (all_fit z st)
unfit z st h f = let g = fit z st f in omega (arith, h, g.memory.frames, g.sizes.frames_most)

-- ── every length ──
-- question 1 first: tables of wrong lengths are refused, and all is as it was
abbrev pub Refuses : Sizes → (State → Outcome State) → Type 0
Refuses z G = (st : State) → ¬ Holds (all_fit z st) → G st ≡ refusal 1 st

-- what is left of tables of wrong lengths: an answer, and all as it was
abbrev pub told : Answer → State → Outcome State
told c st = record { answer = c; left = st }

module _ (z : Sizes) (ys : List Frame) (before : State) where
  abbrev n : ℕ
  n = length ys

  abbrev copy : State
  copy = with_frames (frames_of (loaded ys) n) before

  unfit_copy : 64 < n → ¬ Holds (all_fit z copy)
  unfit_copy h = unfit z copy (omega (arith, h, length_frames (loaded ys) n))

  unfit_lent : 64 < n → ¬ Holds (all_fit z (with_frames ys before))
  unfit_lent h = unfit z (with_frames ys before) h

  pub alike : {X : Type 0} (G : State → X) (x : X) → ((st : State) → ¬ Holds (all_fit z st) → G st ≡ x) → G copy ≡ G (with_frames ys before)
  alike G x refuses = elim (dec_le n 64) [
    | yes h ↦ ap (λ (f : List Frame). G (with_frames f before)) (loaded_frames ys h)
    | no h ↦ let more : 64 < n = omega (arith, h) in refuses copy (unfit_copy more) ∙ sym (refuses (with_frames ys before) (unfit_lent more))
  ]

  pub kept : (G : State → Outcome State) → Refuses z G → (after : State) (r : Answer) → told r (with_frames (frames_of (loaded ys) n) after) ≡ G copy → told r (with_frames ys after) ≡ G (with_frames ys before)
  kept G refuses after r e = elim (dec_le n 64) [
    | yes h ↦ ap (λ (f : List Frame). told r (with_frames f after)) (sym (loaded_frames ys h)) ∙ e ∙ ap (λ (f : List Frame). G (with_frames f before)) (loaded_frames ys h)
    | no h ↦ let more : 64 < n = omega (arith, h) in ap (λ (o : Outcome State). told o.answer (with_frames ys o.left)) (e ∙ refuses copy (unfit_copy more)) ∙ sym (refuses (with_frames ys before) (unfit_lent more))
  ]

  module _ {c : Answer} (G : State → Outcome State) (refuses : (st : State) → ¬ Holds (all_fit z st) → G st ≡ told c st) (after : State) (r : Answer) (fs : List Frame) (l : length fs ≡ 64) (e : record { answer = r; left = with_frames (frames_of fs n) after } ≡ G copy) where
    more : 64 < n → record { answer = r; left = with_frames (saved ys fs) after } ≡ G (with_frames ys before)
    more h =
        let kept : record { answer = r; left = with_frames (frames_of fs n) after } ≡ told c copy = e ∙ refuses copy (unfit_copy h) in
        ap (λ (f : List Frame). record { answer = r; left = with_frames f after }) (saved_more ys fs h l (ap (λ (o : Outcome State). o.left.memory.core.frames) kept))
        ∙ ap (λ (o : Outcome State). record { answer = o.answer; left = with_frames ys o.left }) kept
        ∙ sym (refuses (with_frames ys before) (unfit_lent h))

    saved_whole : record { answer = r; left = with_frames (saved ys fs) after } ≡ G (with_frames ys before)
    saved_whole = elim (dec_le n 64) [
      | yes h ↦ ap (λ (f : List Frame). record { answer = r; left = with_frames f after }) (sym (saved_frames ys fs l h)) ∙ e ∙ ap (λ (f : List Frame). G (with_frames f before)) (loaded_frames ys h)
      | no h ↦ more (omega (arith, h))
    ]

    pub whole : (zs : List Frame) → zs ≡ saved ys fs → record { answer = r; left = with_frames zs after } ≡ G (with_frames ys before)
    whole zs same = ap (λ (f : List Frame). record { answer = r; left = with_frames f after }) same ∙ saved_whole
