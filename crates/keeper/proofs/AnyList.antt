-- A list of requests over a slice of frames of any length: what the call leaves, from what its work leaves on the array of 64.
use mathlib.Core.Path.{◌≡◌, sym, ap, ◌∙◌}
use mathlib.Core.List.{List}
use Prim.Native.Nat.{ℕ}
use lib.ListN.{length}
use Rattle.tables.specs.Rule.{Holds}
use Rattle.model.specs.declared.frame.Frame.{Frame}
use Rattle.model.specs.declared.sizes.Sizes.{Sizes}
use Rattle.model.specs.declared.event.Answer.{Answer}
use Rattle.model.specs.State.{State}
use Rattle.model.specs.Step.{Outcome, all_fit}
use Rattle.model.specs.Calls.{frames_of}
use Rattle.model.specs.ApplyAll.{Listed, request_count, refusals, last_refusal, after, apply_all, refused_all}
use Rattle.keeper.specs.Copies.{loaded, saved}
use Rattle.keeper.proofs.AnyLength.{with_frames, alike, whole}
use Rattle.keeper.proofs.Refused.{apply_refuses}

module _ (z : Sizes) (requests answers : List ℕ) where
  abbrev count : ℕ
  count = request_count (length requests) (length answers)

  -- tables of wrong lengths: 1 each, and all as it was
  all_refuse : (st : State) → ¬ Holds (all_fit z st) → apply_all z requests answers st ≡ record { answer = last_refusal 1 count; answers = refusals 1 answers count; left = st }
  unfolding apply_all
  all_refuse st h = sym (refused_all z requests answers st 1 (λ r. sym (apply_refuses z r st h)) count)

-- but for the answers it is as an event
abbrev outcome_of : Listed → Outcome State
outcome_of d = record { answer = d.answer; left = d.left }

pub whole_list : (z : Sizes) (ys : List Frame) (before : State) (requests answers : List ℕ) (after : State) (r : Answer) (ns : List ℕ) (fs : List Frame) → length fs ≡ 64
    → ◌≡◌ {A = Listed} (record { answer = r; answers = ns; left = with_frames (frames_of fs (length ys)) after }) (apply_all z requests answers (with_frames (frames_of (loaded ys) (length ys)) before))
    → (zs : List Frame) → zs ≡ saved ys fs → ◌≡◌ {A = Listed} (record { answer = r; answers = ns; left = with_frames zs after }) (apply_all z requests answers (with_frames ys before))
whole_list z ys before requests answers after r ns fs l e zs same =
    let o : record { answer = r; left = with_frames zs after } ≡ outcome_of (apply_all z requests answers (with_frames ys before)) =
    whole z ys before (λ (st : State). outcome_of (apply_all z requests answers st)) (λ st h. ap outcome_of (all_refuse z requests answers st h)) after r fs l (ap outcome_of e) zs same in
    let a : ns ≡ (apply_all z requests answers (with_frames ys before)).answers =
    ap (λ (d : Listed). d.answers) e
    ∙ alike z ys before (λ (st : State). (apply_all z requests answers st).answers) (refusals 1 answers (count z requests answers)) (λ st h. ap (λ (d : Listed). d.answers) (all_refuse z requests answers st h)) in
    λ x. record { answer = (o x).answer; answers = a x; left = (o x).left }
