-- The four families do not look at the waiting line: whatever it is, each of their events asks, answers and does the same, and leaves the line as it was.
use Rattle.std.specs.Prelude.{◌≡◌, Bool, true, false, List, [], ℕ, zero, suc, set, length}
use Rattle.std.proofs.Math.Path.{refl, ap}
use Rattle.std.proofs.Common.{sym, ◌∙◌, arith}
use Rattle.std.proofs.Math.Dec.{eqb}
use Rattle.tables.specs.Base.{if}
use Rattle.tables.specs.Queue.{queue_of}
use Rattle.tables.specs.QueueLaws.{length_packed, packed_queue}
use Rattle.tables.specs.TimesLaws.{times_nil}
use Rattle.tables.specs.Questions.{first_no}
use Rattle.tables.specs.Rule.{Holds, test, same}
use Rattle.tables.specs.Store.{store}
use Rattle.model.specs.declared.sizes.Sizes.{Sizes}
use Rattle.model.specs.declared.event.Design.TheVariants.{Create, Delete, Activate, Deactivate}
use Rattle.model.specs.declared.event.Account.TheVariants.{Limit, Move}
use Rattle.model.specs.declared.event.Page.TheVariants.{Fault, Read, Write, Wire, Unwire}
use Rattle.model.specs.declared.event.Writeback.TheVariants.{Claim, Truncate, Update, PageDone, MapDone}
use Rattle.model.specs.declared.event.Event.{Event}
use Rattle.model.specs.Lines.{FREE, NULLED, RELEASED}
use Rattle.model.specs.State.{State, files, frames, READING, WRITING, LINE, all_pages, page_of, live}
use Rattle.model.specs.Lent.{no_line}
use Rattle.model.specs.Setters.{on_disk, on_core, on_held, on_slots, set_states, set_owners, set_transfer, set_line, counted}
use Rattle.model.specs.Parts.{pick}
use Rattle.model.specs.Questions.{questions, would_store}
use Rattle.model.specs.Designs
use Rattle.model.specs.Accounts
use Rattle.model.specs.Pages
use Rattle.model.specs.Pages.{on_frame, fault_frame, begin_read, serve_zeros, take_record, fault}
use Rattle.model.specs.Writeback
use Rattle.model.specs.Writeback.{looking, looked, begins_write, zeros, record_in, free_frame, claim, read_good, read_failed, write_good, write_failed, store_frame, page_done, store_image, leaver, update_over, map_done}
use Rattle.model.specs.Step.{Outcome, outcome, carried, result}
use Rattle.model.specs.Laws.Own.{own}
use Rattle.model.specs.Laws.Nulled.{claim_nulls, nulled_by}
use Rattle.model.specs.Laws.Ruled.{Ruled}
use Rattle.model.specs.Laws.Fit.{Fit}
use Rattle.dispatch.specs.Kept.{Kept}

-- the event is of one of the four families
abbrev pub Apart : Event → Type 0
Apart (Event.Design e) = Unit {0}
Apart (Event.Account e) = Unit {0}
Apart (Event.Page e) = Unit {0}
Apart (Event.Writeback e) = Unit {0}
Apart (Event.Waiting e) = ⊥

module _ (line : List ℕ) where
  -- an outcome, its state with this line
  abbrev pub beside : Outcome State → Outcome State
  beside o = record { answer = o.answer; left = set_line line o.left }

  chosen : (b : Bool) (x y x' y' : State) → x' ≡ set_line line x → y' ≡ set_line line y → if b x' y' ≡ set_line line (if b x y)
  chosen true x y x' y' p q = p
  chosen false x y x' y' p q = q

  outcome_beside : (n result : ℕ) (old new : State) → outcome n result (set_line line old) (set_line line new) ≡ beside (outcome n result old new)
  outcome_beside zero result old new = refl
  outcome_beside (suc n) result old new = refl

  module _ (z : Sizes) (st : State) where
    abbrev with : State
    with = set_line line st

    same_counts : (x' x : State) → x' ≡ set_line line x → counted z x' ≡ set_line line (counted z x)
    unfolding counted
    same_counts x' x p = ap (counted z) p

    fault_beside : (s p : ℕ) → fault z with s p ≡ set_line line (fault z st s p)
    unfolding fault fault_frame begin_read serve_zeros take_record
    fault_beside s p =
        let i = page_of z s p in let f = fault_frame st in let r = pick z (files st).address (files st).state st.memory.held.pool.hand i in
        let zeroed = test (same ((files st).address i) 0) in
        same_counts _ _ (chosen (test (live (files st) i)) (begin_read z st i f) (if zeroed (serve_zeros z (take_record z st i r) i f) (serve_zeros z st i f))
        (begin_read z with i f) (if zeroed (serve_zeros z (take_record z with i r) i f) (serve_zeros z with i f)) refl
        (chosen zeroed (serve_zeros z (take_record z st i r) i f) (serve_zeros z st i f) (serve_zeros z (take_record z with i r) i f) (serve_zeros z with i f) refl refl))

    claim_beside : claim z with ≡ set_line line (claim z st)
    unfolding claim looking begins_write zeros free_frame
    claim_beside =
        let f = (looking z st).taken in
        let modified = eqb ((frames st).frame f).modified 1 in
        let writes : State → State = λ x. on_core (λ c. on_frame f (set_transfer WRITING) c) (looked z x) in
        let nulls : State → State = λ x. free_frame f (on_held (λ h. set_states (set h.states (record_in z st f) NULLED) h) (looked z x)) in
        let frees : State → State = λ x. free_frame f (looked z x) in
        same_counts _ _ (chosen (begins_write z st) (writes st) (if modified (nulls st) (frees st)) (writes with) (if modified (nulls with) (frees with)) refl
        (chosen modified (nulls st) (frees st) (nulls with) (frees with) refl refl))

    done_beside : (f good : ℕ) → page_done z with f good ≡ set_line line (page_done z st f good)
    unfolding page_done read_good read_failed store_frame write_good write_failed free_frame
    done_beside f good =
        let g = eqb good 1 in
        same_counts _ _ (chosen (eqb ((frames st).frame f).transfer READING)
        (if g (read_good z st f) (read_failed z st f)) (if g (write_good z st f) (write_failed z st f)) (if g (read_good z with f) (read_failed z with f)) (if g (write_good z with f) (write_failed z with f))
        (chosen g (read_good z st f) (read_failed z st f) (read_good z with f) (read_failed z with f) refl refl)
        (chosen g (write_good z st f) (write_failed z st f) (write_good z with f) (write_failed z with f) refl refl))

    map_beside : (s good : ℕ) → map_done z with s good ≡ set_line line (map_done z st s good)
    unfolding map_done store_image update_over
    map_beside s good =
        let stored : State → State = λ x. on_disk (store_image z x s) (on_slots (update_over z x s) (on_held (λ h. set_states (store h.states (leaver z x s) (λ r. FREE)) (set_owners (store h.owners (leaver z x s) (λ r. 0)) h)) x)) in
        let failed : State → State = λ x. on_slots (update_over z x s) (on_held (λ h. set_states (store h.states (leaver z x s) (λ r. RELEASED)) h) x) in
        same_counts _ _ (chosen (eqb good 1) (stored st) (failed st) (stored with) (failed with) refl refl)

    carried_beside : (e : Event) → Apart e → carried z with e ≡ set_line line (carried z st e)
    unfolding carried counted would_store Accounts.limit Accounts.move Designs.create Designs.delete Designs.activate Designs.deactivate Pages.read Pages.write Pages.wire Pages.unwire Writeback.cut_frames Writeback.truncate Writeback.update
    carried_beside (Event.Design (Create s q n)) a = refl
    carried_beside (Event.Design (Delete s)) a = refl
    carried_beside (Event.Design (Activate s)) a = refl
    carried_beside (Event.Design (Deactivate s)) a = refl
    carried_beside (Event.Account (Limit q n)) a = refl
    carried_beside (Event.Account (Move g t m)) a = refl
    carried_beside (Event.Page (Fault s p)) a = fault_beside s p
    carried_beside (Event.Page (Read s p w)) a = refl
    carried_beside (Event.Page (Write s p w x)) a = refl
    carried_beside (Event.Page (Wire s p)) a = refl
    carried_beside (Event.Page (Unwire s p)) a = refl
    carried_beside (Event.Writeback Claim) a = claim_beside
    carried_beside (Event.Writeback (Truncate s k)) a = refl
    carried_beside (Event.Writeback (Update s)) a = refl
    carried_beside (Event.Writeback (PageDone f good)) a = done_beside f good
    carried_beside (Event.Writeback (MapDone s good)) a = map_beside s good
    carried_beside (Event.Waiting e) a = elim a [ ]

    result_beside : (e : Event) → Apart e → result z with e ≡ result z st e
    unfolding result fault_frame Pages.word_read looking
    result_beside (Event.Design e) a = refl
    result_beside (Event.Account e) a = refl
    result_beside (Event.Page (Fault s p)) a = refl
    result_beside (Event.Page (Read s p w)) a = refl
    result_beside (Event.Page (Write s p w x)) a = refl
    result_beside (Event.Page (Wire s p)) a = refl
    result_beside (Event.Page (Unwire s p)) a = refl
    result_beside (Event.Writeback Claim) a = refl
    result_beside (Event.Writeback (Truncate s k)) a = refl
    result_beside (Event.Writeback (Update s)) a = refl
    result_beside (Event.Writeback (PageDone f good)) a = refl
    result_beside (Event.Writeback (MapDone s good)) a = refl
    result_beside (Event.Waiting e) a = elim a [ ]

    -- nor do its questions look at the line
    pub questions_beside : (e : Event) → Apart e → questions z with e ≡ questions z st e
    unfolding would_store Accounts.move counted
    questions_beside (Event.Design (Create s q n)) a = refl
    questions_beside (Event.Design (Delete s)) a = refl
    questions_beside (Event.Design (Activate s)) a = refl
    questions_beside (Event.Design (Deactivate s)) a = refl
    questions_beside (Event.Account (Limit q n)) a = refl
    questions_beside (Event.Account (Move g t m)) a = refl
    questions_beside (Event.Page (Fault s p)) a = refl
    questions_beside (Event.Page (Read s p w)) a = refl
    questions_beside (Event.Page (Write s p w x)) a = refl
    questions_beside (Event.Page (Wire s p)) a = refl
    questions_beside (Event.Page (Unwire s p)) a = refl
    questions_beside (Event.Writeback Claim) a = refl
    questions_beside (Event.Writeback (Truncate s k)) a = refl
    questions_beside (Event.Writeback (Update s)) a = refl
    questions_beside (Event.Writeback (PageDone f good)) a = refl
    questions_beside (Event.Writeback (MapDone s good)) a = refl
    questions_beside (Event.Waiting e) a = elim a [ ]

    pub own_beside : (e : Event) → Apart e → own z with e ≡ beside (own z st e)
    unfolding own
    own_beside e a = (λ x. outcome (first_no (questions_beside e a x)) (result_beside e a x) with (carried_beside e a x))
        ∙ outcome_beside (first_no (questions z st e)) (result z st e) st (carried z st e)

    -- the lengths and the rules hold whatever the line, if it keeps its own
    pub fit_beside : length line ≡ LINE → Fit z st → Fit z with
    fit_beside len f = let m = f.memory in record {
      sizes = f.sizes;
      disk = f.disk;
      memory = record {
        frames = m.frames;
        words = m.words;
        free_queue = m.free_queue;
        removal_list = m.removal_list;
        addresses = m.addresses;
        states = m.states;
        owners = m.owners;
        free_map = m.free_map;
        active = m.active;
        updating = m.updating;
        images = m.images;
        line = len;
        used = m.used;
      };
    }

    pub ruled_beside : Holds (queue_of LINE (all_pages z) line) → Ruled z st → Ruled z with
    ruled_beside ok r = record {
      disk = r.disk;
      records = r.records;
      queues = record { free_queue = r.queues.free_queue; removal_list = r.queues.removal_list };
      frames = r.frames;
      counts = record { hand = r.counts.hand; free = r.counts.free; free_map = r.counts.free_map; used = r.counts.used };
      line = ok;
    }

    pub kept_beside : length line ≡ LINE → Holds (queue_of LINE (all_pages z) line) → Kept z st → Kept z with
    kept_beside len ok k = record { fits = fit_beside len k.fits; rules = ruled_beside ok k.rules }

-- nobody waiting keeps its own
pub no_line_long : length no_line ≡ LINE
no_line_long = length_packed LINE []

pub no_line_ruled : (n : ℕ) → Holds (queue_of LINE n no_line)
no_line_ruled n = packed_queue LINE n [] (omega arith) (λ x h. absurd (omega (arith, times_nil x, h)))

-- with nobody waiting: what the functions of the four families ask
pub kept_alone : (z : Sizes) (st : State) → Kept z st → Kept z (set_line no_line st)
kept_alone z st k = kept_beside no_line z st no_line_long (no_line_ruled (all_pages z)) k

-- what a function of the four families leaves, with any line
pub leaves_beside : (line : List ℕ) (z : Sizes) (st : State) (e : Event) → Apart e → (o : Outcome State) → o ≡ own z st e → beside line o ≡ own z (set_line line st) e
leaves_beside line z st e a o p = ap (beside line) p ∙ sym (own_beside line z st e a)

-- .. and what it tells of a record made nulled
pub nulls_beside : (line : List ℕ) (z : Sizes) (st : State) (e : Event) → Apart e → nulled_by z (set_line line st) e ≡ nulled_by z st e
unfolding nulled_by claim_nulls looking begins_write zeros
nulls_beside line z st (Event.Design e) a = refl
nulls_beside line z st (Event.Account e) a = refl
nulls_beside line z st (Event.Page e) a = refl
nulls_beside line z st (Event.Writeback Claim) a = refl
nulls_beside line z st (Event.Writeback (Truncate s p)) a = refl
nulls_beside line z st (Event.Writeback (Update s)) a = refl
nulls_beside line z st (Event.Writeback (PageDone f good)) a = refl
nulls_beside line z st (Event.Writeback (MapDone s good)) a = refl
nulls_beside line z st (Event.Waiting e) a = absurd a
