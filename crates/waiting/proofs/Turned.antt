-- A turn over all tables: its outcome by what the code tells of the first request, and by the outcome of its fault and of its claim.
use mathlib.Core.Path.{◌≡◌, refl, ap, sym, ◌∙◌}
use mathlib.Core.Bool.{Bool, true, false}
use mathlib.Core.List.{List}
use Prim.Native.Nat.{ℕ, zero, suc, ◌<◌}
use native.Mathlib.Omega.{arith}
use native.Mathlib.Decide.{ℕ_discrete}
use lib.Dec.{eqb}
use lib.ListN.{length, take}
use borrow.Author.Tests.{eq-eqb, ne_eqb}
use Rattle.tables.specs.Base.{if}
use Rattle.tables.specs.Queue.{queue_of, size, first, pop, push_back}
use Rattle.tables.specs.Questions.{first_no}
use Rattle.tables.specs.Rule.{Holds, test, told, untold, alike}
use Rattle.model.specs.declared.sizes.Sizes.{Sizes}
use Rattle.model.specs.declared.frame.Frame.{Frame}
use Rattle.model.specs.declared.event.Answer.{Answer}
use Rattle.model.specs.declared.event.Event.{Event}
use Rattle.model.specs.declared.event.Waiting.TheVariants.{Turn}
use Rattle.model.specs.declared.event.Writeback.TheVariants.{Claim}
use Rattle.model.specs.State.{State, frames, framed, frame_at, all_pages, NONE}
use Rattle.model.specs.Setters.{set_line}
use Rattle.model.specs.Questions.{Turning, nobody, serves, goes_back, faults, claims, sends_away, still, next_page, next_fault, by_fault, turning, turn_questions, questions}
use Rattle.model.specs.Line.{turned, treated, turn, turn_result}
use Rattle.model.specs.Laws.LineLaws.{fault_number, Waiting, InFrame}
use Rattle.model.specs.Step.{Outcome, outcome, carried, result}
use Rattle.model.specs.Laws.Own.{own, leaves, refusal, completed}
use Rattle.model.specs.Laws.OwnLaws.{done, own_no, own_yes}
use Rattle.model.specs.Laws.Nulled.{turn_nulls, nulled_by}
use Rattle.leaves.specs.FrameLaws.{frame_in, is_still}
use Rattle.pages.specs.Asks.{of_frame}
use Rattle.pages.specs.Needs.{Seats}
use Rattle.pages.proofs.ItsFrame.{its_tells, its_told}
use Rattle.dispatch.specs.Kept.{Kept}

-- a result that is not handed on
no_result : (n r : ℕ) (old new : State) (o : Outcome State) → o ≡ outcome n r old new → leaves (record { refusal = o.answer.refusal; result = 0 }) o.left ≡ outcome n 0 old new
no_result zero r old new o e = λ x. leaves (record { refusal = (e x).answer.refusal; result = 0 }) (e x).left
no_result (suc n) r old new o e = λ x. leaves (record { refusal = (e x).answer.refusal; result = 0 }) (e x).left

module _ (z : Sizes) (st : State) where
  abbrev turns : Event
  turns = Event.Waiting Turn

  abbrev line : List ℕ
  line = st.memory.line

  -- by how the first request is treated
  by_turning : (t : Turning) → t ≡ turning z st → outcome (first_no (turn_questions z st t)) (treated t) st (turned z st t) ≡ own z st turns
  unfolding own carried result turn turn_result
  by_turning t e = ap (λ (u : Turning). outcome (first_no (turn_questions z st u)) (treated u) st (turned z st u)) e

  nulls_turning : (t : Turning) → t ≡ turning z st → turn_nulls z st t ≡ nulled_by z st turns
  unfolding nulled_by
  nulls_turning t e = ap (turn_nulls z st) e

  -- nobody waits
  is_nobody : size line ≡ 0 → nobody ≡ turning z st
  unfolding turning
  is_nobody e = rw (eq-eqb (size line) 0 e) refl

  pub nobody_own : size line ≡ 0 → completed 0 st ≡ own z st turns
  unfolding first_no
  nobody_own e = by_turning nobody (is_nobody e)

  pub nobody_nulls : size line ≡ 0 → 0 ≡ nulled_by z st turns
  nobody_nulls e = nulls_turning nobody (is_nobody e)

  module _ (w : Waiting z st) where
    -- its page is in a frame
    is_met : InFrame z st → if (test (still z st (next_page z st))) serves goes_back ≡ turning z st
    unfolding turning
    is_met i = rw (ne_eqb (size line) 0 (λ e. omega (arith, e, w)), told (framed z (frames st) (next_page z st)) i) refl

    pub met_own : InFrame z st → (b : Bool) → b ≡ test (still z st (next_page z st)) → completed (if b 1 0) (set_line (if b (pop line) (push_back (pop line) (first line))) st) ≡ own z st turns
    unfolding first_no
    met_own i true e = by_turning serves (ap (λ (b : Bool). if b serves goes_back) e ∙ is_met i)
    met_own i false e = by_turning goes_back (ap (λ (b : Bool). if b serves goes_back) e ∙ is_met i)

    none_met : (b : Bool) → 0 ≡ turn_nulls z st (if b serves goes_back)
    none_met true = refl
    none_met false = refl

    pub met_nulls : InFrame z st → 0 ≡ nulled_by z st turns
    met_nulls i = none_met (test (still z st (next_page z st))) ∙ nulls_turning _ (is_met i)

    -- it is in none
    module _ (i : ¬ InFrame z st) where
      abbrev fault : Event
      fault = Event.Page (next_fault z st)

      abbrev n : ℕ
      n = fault_number z st

      is_brought : by_fault z st n ≡ turning z st
      unfolding turning
      is_brought = rw (ne_eqb (size line) 0 (λ e. omega (arith, e, w)), untold (framed z (frames st) (next_page z st)) i) refl

      is_faulting : n ≡ 0 → faults ≡ turning z st
      is_faulting e = sym (ap (λ (b : Bool). if b faults (if (eqb n 20) claims (sends_away n))) (eq-eqb n 0 e)) ∙ is_brought

      is_other : ¬ (n ≡ 0) → if (eqb n 20) claims (sends_away n) ≡ turning z st
      is_other h = sym (ap (λ (b : Bool). if b faults (if (eqb n 20) claims (sends_away n))) (ne_eqb n 0 h)) ∙ is_brought

      is_claiming : n ≡ 20 → claims ≡ turning z st
      is_claiming e = sym (ap (λ (b : Bool). if b claims (sends_away n)) (eq-eqb n 20 e)) ∙ is_other (λ h. omega (arith, e, h))

      is_away : ¬ (n ≡ 0) → ¬ (n ≡ 20) → sends_away n ≡ turning z st
      is_away h k = sym (ap (λ (b : Bool). if b claims (sends_away n)) (ne_eqb n 20 k)) ∙ is_other h

      -- a is what the fault answered, and t what it left
      module _ {a : Answer} {t : State} (e : leaves a t ≡ own z st fault) where
        refused : ¬ (n ≡ 0) → leaves a t ≡ refusal n st
        refused h = e ∙ sym (own_no z st fault n refl h)

        accepted : n ≡ 0 → leaves a t ≡ done z st fault
        accepted h = e ∙ sym (own_yes z st fault n refl h)

        answered : a.refusal ≡ n
        answered = elim (ℕ_discrete n 0) [ yes h ↦ (λ x. (accepted h x).answer.refusal) ∙ sym h | no h ↦ (λ x. (refused h x).answer.refusal) ]

        -- no frame is free: all is as it was
        pub as_it_was : a.refusal ≡ 20 → t ≡ st
        as_it_was h = λ x. (refused (λ k. omega (arith, answered, h, k)) x).left

        -- and the claim's outcome is the turn's
        pub claimed_own : a.refusal ≡ 20 → (o : Outcome State) → o ≡ own z st (Event.Writeback Claim) → leaves (record { refusal = o.answer.refusal; result = 0 }) o.left ≡ own z st turns
        unfolding own carried
        claimed_own h o q = no_result (first_no (questions z st (Event.Writeback Claim))) (result z st (Event.Writeback Claim)) st (carried z st (Event.Writeback Claim)) o q ∙ by_turning claims (is_claiming (sym answered ∙ h))

        pub claimed_nulls : a.refusal ≡ 20 → {n : ℕ} → n ≡ nulled_by z st (Event.Writeback Claim) → n ≡ nulled_by z st turns
        unfolding nulled_by
        claimed_nulls h q = q ∙ nulls_turning claims (is_claiming (sym answered ∙ h))

        pub settled_nulls : ¬ (a.refusal ≡ 20) → 0 ≡ nulled_by z st turns
        settled_nulls h = elim (ℕ_discrete n 0) [
          | yes y ↦ nulls_turning faults (is_faulting y)
          | no y ↦ nulls_turning (sends_away n) (is_away y (λ x. h (answered ∙ x)))
        ]

        -- accepted, or sent away: l is the line then
        pub settled_own : ¬ (a.refusal ≡ 20) → t.memory.line ≡ line → (l : List ℕ) → l ≡ if (eqb a.refusal 0) line (pop line) → leaves (record { refusal = 0; result = a.refusal }) (set_line l t) ≡ own z st turns
        unfolding carried first_no
        settled_own h same l k = elim (ℕ_discrete n 0) [
          | yes y ↦
              let m : a.refusal ≡ 0 = answered ∙ y in
              let stays : l ≡ t.memory.line = k ∙ ap (λ (b : Bool). if b line (pop line)) (eq-eqb a.refusal 0 m) ∙ sym same in
              (λ x. leaves (record { refusal = 0; result = m x }) (set_line (stays x) t)) ∙ (λ x. leaves (record { refusal = 0; result = 0 }) (accepted y x).left) ∙ by_turning faults (is_faulting y)
          | no y ↦
              let pops : l ≡ pop line = k ∙ ap (λ (b : Bool). if b line (pop line)) (ne_eqb a.refusal 0 (λ x. y (sym answered ∙ x))) in
              (λ x. leaves (record { refusal = 0; result = answered x }) (set_line (pops x) (refused y x).left)) ∙ by_turning (sends_away n) (is_away y (λ x. h (answered ∙ x)))
        ]

-- whether the page's frame is still, as the code tells it: fs is what the code holds
pub still_told : (z : Sizes) (fs : List Frame) (i : ℕ) → Seats z (take z.frames fs) → frame_in z.frames fs i < z.frames
    → eqb (frame_at fs (frame_in z.frames fs i)).transfer NONE ≡ test (of_frame z (take z.frames fs) i is_still)
unfolding test
still_told z fs i seats h = alike (is_still (frame_at fs (frame_in z.frames fs i))) (of_frame z (take z.frames fs) i is_still) (its_told z fs i h seats is_still) (its_tells z fs i h is_still)

-- a line that keeps its rule, as the queue's acts ask it
pub packed_line : (z : Sizes) (st : State) → Kept z st → (m : ℕ) × Holds (queue_of (length st.memory.line) m st.memory.line)
packed_line z st k = (all_pages z, rw k.fits.memory.line k.rules.line)
