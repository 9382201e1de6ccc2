-- But for what the chip does, no event looks at it: whatever it is, each event asks, answers and does the same, and leaves it as it was. For code: the families of events are as they were.
use mathlib.Core.Path.{◌≡◌, refl, ap, ◌∙◌}
use mathlib.Core.Bool.{Bool, true, false}
use Prim.Native.Nat.{ℕ, zero, suc}
use lib.Dec.{eqb}
use lib.ListN.{set}
use Rattle.tables.specs.Base.{if}
use Rattle.tables.specs.Questions.{first_no}
use Rattle.tables.specs.Rule.{test, same}
use Rattle.model.specs.declared.sizes.Sizes.{Sizes}
use Rattle.model.specs.declared.event.Design.TheVariants.{Create, Delete, Activate, Deactivate}
use Rattle.model.specs.declared.event.Account.TheVariants.{Limit, Move}
use Rattle.model.specs.declared.event.Page.TheVariants.{Fault, Read, Write, Wire, Unwire}
use Rattle.model.specs.declared.event.Writeback.TheVariants.{Claim, Truncate, Update, PageDone, MapDone}
use Rattle.model.specs.declared.event.Waiting.TheVariants.{Join, Turn}
use Rattle.model.specs.declared.event.Event.{Event}
use Rattle.model.specs.declared.event.Event.TheVariants as Event
use Rattle.model.specs.Lines.{NULLED}
use Rattle.model.specs.State.{Chip, State, files, frames, READING, WRITING, page_of, live}
use Rattle.model.specs.Setters.{on_core, on_held, set_states, set_transfer, set_chip, counted}
use Rattle.model.specs.Questions.{Turning, nobody, serves, goes_back, faults, claims, sends_away, questions, would_store, turning}
use Rattle.model.specs.Designs
use Rattle.model.specs.Accounts
use Rattle.model.specs.Pages
use Rattle.model.specs.Pages.{on_frame, fault_frame, begin_read, serve_zeros, take_record, fault}
use Rattle.model.specs.Writeback
use Rattle.model.specs.Writeback.{looking, looked, begins_write, zeros, record_in, free_frame, claim, read_good, read_failed, write_good, write_failed, store_frame, page_done, store_image, update_over, map_done}
use Rattle.model.specs.Line
use Rattle.model.specs.Step.{Outcome, outcome, carried, result}
use Rattle.model.specs.Laws.Own.{own}

module _ (k : Chip) where
  -- an outcome, its state with this chip
  abbrev pub beside : Outcome State → Outcome State
  beside o = record { answer = o.answer; left = set_chip k o.left }

  chosen : (b : Bool) (x y x' y' : State) → x' ≡ set_chip k x → y' ≡ set_chip k y → if b x' y' ≡ set_chip k (if b x y)
  chosen true x y x' y' p q = p
  chosen false x y x' y' p q = q

  outcome_beside : (n result : ℕ) (old new : State) → outcome n result (set_chip k old) (set_chip k new) ≡ beside (outcome n result old new)
  outcome_beside zero result old new = refl
  outcome_beside (suc n) result old new = refl

  module _ (z : Sizes) (st : State) where
    abbrev with : State
    with = set_chip k st

    same_counts : (x' x : State) → x' ≡ set_chip k x → counted z x' ≡ set_chip k (counted z x)
    unfolding counted
    same_counts x' x p = ap (counted z) p

    fault_beside : (s p : ℕ) → fault z with s p ≡ set_chip k (fault z st s p)
    unfolding fault fault_frame begin_read serve_zeros take_record
    fault_beside s p = same_counts _ _ (chosen (test (live (files st) (page_of z s p))) _ _ _ _ refl (chosen (test (same ((files st).address (page_of z s p)) 0)) _ _ _ _ refl refl))

    claim_beside : claim z with ≡ set_chip k (claim z st)
    unfolding claim looking begins_write zeros free_frame
    claim_beside =
        let f = (looking z st).taken in
        let modified = eqb ((frames st).frame f).modified 1 in
        let writes : State → State = λ x. on_core (λ c. on_frame f (set_transfer WRITING) c) (looked z x) in
        let nulls : State → State = λ x. free_frame f (on_held (λ h. set_states (set h.states (record_in z st f) NULLED) h) (looked z x)) in
        let frees : State → State = λ x. free_frame f (looked z x) in
        same_counts _ _ (chosen (begins_write z st) (writes st) (if modified (nulls st) (frees st)) (writes with) (if modified (nulls with) (frees with)) refl
        (chosen modified (nulls st) (frees st) (nulls with) (frees with) refl refl))

    done_beside : (f good : ℕ) → page_done z with f good ≡ set_chip k (page_done z st f good)
    unfolding page_done read_good read_failed store_frame write_good write_failed free_frame
    done_beside f good = same_counts _ _ (chosen (eqb ((frames st).frame f).transfer READING) _ _ _ _ (chosen (eqb good 1) _ _ _ _ refl refl) (chosen (eqb good 1) _ _ _ _ refl refl))

    map_beside : (s good : ℕ) → map_done z with s good ≡ set_chip k (map_done z st s good)
    unfolding map_done store_image update_over
    map_beside s good = same_counts _ _ (chosen (eqb good 1) _ _ _ _ refl refl)

    turn_beside : (t : Turning) → Line.turned z with t ≡ set_chip k (Line.turned z st t)
    turn_beside nobody = refl
    turn_beside serves = refl
    turn_beside goes_back = refl
    turn_beside faults = fault_beside _ _
    turn_beside claims = claim_beside
    turn_beside (sends_away n) = refl

    pub carried_beside : (e : Event) → carried z with e ≡ set_chip k (carried z st e)
    unfolding carried counted would_store Accounts.limit Accounts.move Designs.create Designs.delete Designs.activate Designs.deactivate Pages.read Pages.write Pages.wire Pages.unwire Writeback.cut_frames Writeback.truncate Writeback.update Line.join Line.turn turning
    carried_beside (Event.Design (Create s q n)) = refl
    carried_beside (Event.Design (Delete s)) = refl
    carried_beside (Event.Design (Activate s)) = refl
    carried_beside (Event.Design (Deactivate s)) = refl
    carried_beside (Event.Account (Limit q n)) = refl
    carried_beside (Event.Account (Move g t m)) = refl
    carried_beside (Event.Page (Fault s p)) = fault_beside s p
    carried_beside (Event.Page (Read s p w)) = refl
    carried_beside (Event.Page (Write s p w x)) = refl
    carried_beside (Event.Page (Wire s p)) = refl
    carried_beside (Event.Page (Unwire s p)) = refl
    carried_beside (Event.Writeback Claim) = claim_beside
    carried_beside (Event.Writeback (Truncate s n)) = refl
    carried_beside (Event.Writeback (Update s)) = refl
    carried_beside (Event.Writeback (PageDone f good)) = done_beside f good
    carried_beside (Event.Writeback (MapDone s good)) = map_beside s good
    carried_beside (Event.Waiting (Join s p)) = refl
    carried_beside (Event.Waiting Turn) = turn_beside (turning z st)

    pub result_beside : (e : Event) → result z with e ≡ result z st e
    unfolding result fault_frame Pages.word_read looking Line.turn_result turning
    result_beside (Event.Design e) = refl
    result_beside (Event.Account e) = refl
    result_beside (Event.Page (Fault s p)) = refl
    result_beside (Event.Page (Read s p w)) = refl
    result_beside (Event.Page (Write s p w x)) = refl
    result_beside (Event.Page (Wire s p)) = refl
    result_beside (Event.Page (Unwire s p)) = refl
    result_beside (Event.Writeback Claim) = refl
    result_beside (Event.Writeback (Truncate s n)) = refl
    result_beside (Event.Writeback (Update s)) = refl
    result_beside (Event.Writeback (PageDone f good)) = refl
    result_beside (Event.Writeback (MapDone s good)) = refl
    result_beside (Event.Waiting (Join s p)) = refl
    result_beside (Event.Waiting Turn) = refl

    -- nor do its questions look at the chip
    pub questions_beside : (e : Event) → questions z with e ≡ questions z st e
    unfolding would_store Accounts.move counted turning
    questions_beside (Event.Design (Create s q n)) = refl
    questions_beside (Event.Design (Delete s)) = refl
    questions_beside (Event.Design (Activate s)) = refl
    questions_beside (Event.Design (Deactivate s)) = refl
    questions_beside (Event.Account (Limit q n)) = refl
    questions_beside (Event.Account (Move g t m)) = refl
    questions_beside (Event.Page (Fault s p)) = refl
    questions_beside (Event.Page (Read s p w)) = refl
    questions_beside (Event.Page (Write s p w x)) = refl
    questions_beside (Event.Page (Wire s p)) = refl
    questions_beside (Event.Page (Unwire s p)) = refl
    questions_beside (Event.Writeback Claim) = refl
    questions_beside (Event.Writeback (Truncate s n)) = refl
    questions_beside (Event.Writeback (Update s)) = refl
    questions_beside (Event.Writeback (PageDone f good)) = refl
    questions_beside (Event.Writeback (MapDone s good)) = refl
    questions_beside (Event.Waiting (Join s p)) = refl
    questions_beside (Event.Waiting Turn) = refl

    pub own_beside : (e : Event) → own z with e ≡ beside (own z st e)
    unfolding own
    own_beside e = (λ x. outcome (first_no (questions_beside e x)) (result_beside e x) with (carried_beside e x))
        ∙ outcome_beside (first_no (questions z st e)) (result z st e) st (carried z st e)
