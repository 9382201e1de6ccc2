-- Every event keeps the rules and the lengths of the chip; so does a restart.
use mathlib.Core.Path.{◌≡◌, refl, sym, ◌∙◌}
use mathlib.Core.Bool.{not}
use mathlib.Core.List.{List}
use Prim.Native.Nat.{ℕ, ◌+◌, ◌*◌, ◌<◌}
use native.Mathlib.Omega.{arith}
use native.Mathlib.Decide.{dec_lt}
use lib.Dec.{T, eqb, T_not}
use lib.ListN.{length, get_or-eq_default}
use Rattle.tables.specs.Base.{at, if}
use Rattle.tables.specs.Laws.{if_elim}
use Rattle.tables.specs.Questions.{Asked}
use Rattle.model.specs.declared.sizes.Sizes.{Sizes}
use Rattle.model.specs.declared.event.Design.TheVariants.{Create, Delete, Activate, Deactivate}
use Rattle.model.specs.declared.event.Account.TheVariants.{Limit, Move}
use Rattle.model.specs.declared.event.Page.TheVariants.{Fault, Read, Write, Wire, Unwire}
use Rattle.model.specs.declared.event.Writeback.TheVariants.{Claim, Truncate, Update, PageDone, MapDone}
use Rattle.model.specs.declared.event.Waiting.TheVariants.{Join, Turn}
use Rattle.model.specs.declared.event.Event.{Event}
use Rattle.model.specs.declared.event.Event.TheVariants as Event
use Rattle.model.specs.Lines.{LIVE}
use Rattle.model.specs.State.{Disk, Chip, State, files}
use Rattle.model.specs.Setters.{counted}
use Rattle.model.specs.Parts.{word_at}
use Rattle.model.specs.Questions.{questions}
use Rattle.model.specs.Chip.{copied}
use Rattle.model.specs.Designs
use Rattle.model.specs.Accounts
use Rattle.model.specs.Pages
use Rattle.model.specs.Writeback
use Rattle.model.specs.Line
use Rattle.model.specs.Restart as R
use Rattle.model.specs.Step.{carried, is_fault, supplied, filled, whole}
use Rattle.model.specs.Laws.Ruled.{Ruled, ChipIn}
use Rattle.model.specs.Laws.Fit.{Within, Fit, ChipFit}
use Rattle.invariant.proofs.Cases.{fault_by, claim_by, page_done_by}
use Rattle.invariant.proofs.FrameParts.{part_other}
use Rattle.invariant.proofs.LineKept.{by_turn}
use Rattle.invariant.proofs.Chip.{Sound, sound_same, only_live_holds, only_live_fit, copied_sound, copied_fit, empty_chip_holds, empty_fit}

-- what is kept of the chip
pub record Copies (z : Sizes) (st : State) : Type 0 where
  pub fit : ChipFit z st.memory.chip
  pub rules : ChipIn z st

-- the chip as it was keeps its rules where a live record stays live, with its words
pub copies_stay : (z : Sizes) (st x : State) → x.memory.chip ≡ st.memory.chip → Copies z st → ((q : ℕ) → (files st).state q ≡ LIVE → (files x).state q ≡ LIVE)
    → ((q : ℕ) → (files st).state q ≡ LIVE → (w : ℕ) → w < z.words → at x.disk.records (q * z.words + w) ≡ at st.disk.records (q * z.words + w)) → Copies z x
copies_stay z st x e c alive same = record {
  fit = rw e c.fit;
  rules = rw e (let o = c.rules in record { next = o.next; once = o.once; empty = o.empty; live = λ b h q p. let l = o.live b h q p in (alive q l.0, λ w lw. l.1 w lw ∙ sym (same q l.0 w lw)) });
}

-- a record whose state is live exists
pub live_below : (z : Sizes) (states : List ℕ) → length states ≡ z.records → (r : ℕ) → at states r ≡ LIVE → r < z.records
live_below z states e r l = elim (dec_lt r z.records) [ yes h ↦ h | no d ↦ absurd (omega (arith, l, get_or-eq_default states 0 {n = r} (rw e (omega (arith, d))))) ]

module _ (z : Sizes) (st : State) where
  -- ── no event but a good page done changes the words of a record ──
  abbrev Same : State → Type 0
  Same x = x.disk.records ≡ st.disk.records

  fault_same : (s p : ℕ) → Same (Pages.fault z st s p)
  unfolding Pages.begin_read Pages.serve_zeros Pages.take_record counted
  fault_same s p = fault_by z st Same s p refl (λ r. refl) refl

  claim_same : Same (Writeback.claim z st)
  unfolding Writeback.free_frame counted
  claim_same = claim_by z st Same refl refl refl

  map_same : (s good : ℕ) → Same (Writeback.map_done z st s good)
  unfolding Writeback.store_image Writeback.map_done counted
  map_same s good = if_elim Same (eqb good 1) _ _ (λ t. refl) (λ t. refl)

  -- a page done that is not good changes none, and a good one none but its own
  failed_same : (f good : ℕ) → T (not (eqb good 1)) → Same (Writeback.page_done z st f good)
  unfolding Writeback.read_good Writeback.read_failed Writeback.store_frame Writeback.write_good Writeback.write_failed Writeback.free_frame counted
  failed_same f good n = page_done_by z st Same f good (λ t u. refl) (λ t u. refl) (λ t u. absurd (T_not (eqb good 1) n u)) (λ t u. refl)

  others_same : Fit z st → (f good q w : ℕ) → q < z.records → ¬ (q ≡ Writeback.record_in z st f) → w < z.words
      → at (Writeback.page_done z st f good).disk.records (q * z.words + w) ≡ at st.disk.records (q * z.words + w)
  unfolding Writeback.read_good Writeback.read_failed Writeback.store_frame Writeback.write_good Writeback.write_failed Writeback.free_frame counted
  others_same fits f good q w h n lw = page_done_by z st (λ x. at x.disk.records (q * z.words + w) ≡ at st.disk.records (q * z.words + w)) f good (λ t u. refl) (λ t u. refl)
      (λ t u. part_other z z.records st.disk.records fits.disk.records (Writeback.record_in z st f) (word_at z st.memory.core.words f) w lw q h n) (λ t u. refl)

  -- ── every event ──
  module _ (fits : Fit z st) (r : Ruled z st) (c : Copies z st) where
    abbrev k : Chip
    k = st.memory.chip

    -- what is in the chip before the copies of records that are live no more are dropped
    abbrev Filled : State → Chip → Type 0
    Filled x k' = ChipFit z k' × Sound z (files x).state (at x.disk.records) k'

    -- nothing goes in, and no record's words change
    unfilled : (x : State) → Same x → Filled x k
    unfilled x e = (c.fit, rw e (sound_same z k c.fit (files st).state (files x).state (at st.disk.records) c.rules))

    done_filled : (f good : ℕ) → Filled (Writeback.page_done z st f good) (if (eqb good 1) (copied z (Writeback.record_in z st f) (word_at z (Writeback.page_done z st f good).disk.records (Writeback.record_in z st f)) k) k)
    done_filled f good = if_elim (Filled (Writeback.page_done z st f good)) (eqb good 1) _ k
        (λ t. (
          copied_fit z k c.fit (files st).state (at st.disk.records) c.rules fits.sizes.chip (Writeback.record_in z st f) _,
          copied_sound z k c.fit (files st).state (at st.disk.records) c.rules fits.sizes.chip (Writeback.record_in z st f) _ _ _ (λ w lw. refl)
              (λ q n l w lw. sym (others_same fits f good q w (live_below z st.memory.held.states fits.memory.states q l) n lw)),
        ))
        (λ t. unfilled (Writeback.page_done z st f good) (failed_same f good t))

    pub filled_sound : (e : Event) → Asked (questions z st e) → Filled (carried z st e) (filled z st e k)
    unfolding carried filled counted Accounts.limit Accounts.move Designs.create Designs.delete Designs.activate Designs.deactivate Pages.read Pages.write Pages.wire Pages.unwire Writeback.truncate Writeback.update Line.join
    filled_sound (Event.Design (Create s q n)) a = unfilled (Designs.create z st s q n) refl
    filled_sound (Event.Design (Delete s)) a = unfilled (Designs.delete z st s) refl
    filled_sound (Event.Design (Activate s)) a = unfilled (Designs.activate z st s) refl
    filled_sound (Event.Design (Deactivate s)) a = unfilled (Designs.deactivate z st s) refl
    filled_sound (Event.Account (Limit q n)) a = unfilled (Accounts.limit z st q n) refl
    filled_sound (Event.Account (Move g t m)) a = unfilled (Accounts.move z st g t m) refl
    filled_sound (Event.Page (Fault s p)) a = unfilled (Pages.fault z st s p) (fault_same s p)
    filled_sound (Event.Page (Read s p w)) a = unfilled (Pages.read z st s p) refl
    filled_sound (Event.Page (Write s p w x)) a = unfilled (Pages.write z st s p w x) refl
    filled_sound (Event.Page (Wire s p)) a = unfilled (Pages.wire z st s p) refl
    filled_sound (Event.Page (Unwire s p)) a = unfilled (Pages.unwire z st s p) refl
    filled_sound (Event.Writeback Claim) a = unfilled (Writeback.claim z st) claim_same
    filled_sound (Event.Writeback (Truncate s p)) a = unfilled (Writeback.truncate z st s p) refl
    filled_sound (Event.Writeback (Update s)) a = unfilled (Writeback.update z st s) refl
    filled_sound (Event.Writeback (PageDone f good)) a = done_filled f good
    filled_sound (Event.Writeback (MapDone s good)) a = unfilled (Writeback.map_done z st s good) (map_same s good)
    filled_sound (Event.Waiting (Join s p)) a = unfilled (Line.join z st s p) refl
    filled_sound (Event.Waiting Turn) a = unfilled (Line.turn z st) (by_turn z st fits r Same (λ l h. refl) (λ q. fault_same _ _) (λ q. claim_same) a)

    -- and once these are dropped
    pub chip_kept : (e : Event) → Asked (questions z st e) → Copies z (whole z st e)
    unfolding whole supplied
    chip_kept e a = let s = filled_sound e a in
        record { fit = only_live_fit z (filled z st e k) s.0 (files (carried z st e)).state; rules = only_live_holds z (filled z st e k) s.0 (files (carried z st e)).state (at (carried z st e).disk.records) s.1 }

-- nothing goes into the chip by an event that faults
pub unfilled_fault : (z : Sizes) (st : State) (e : Event) → T (is_fault z st e) → (k : Chip) → filled z st e k ≡ k
unfolding is_fault filled
unfilled_fault z st (Event.Page e) t k = refl
unfilled_fault z st (Event.Waiting e) t k = refl
unfilled_fault z st (Event.Design e) t k = absurd t
unfilled_fault z st (Event.Account e) t k = absurd t
unfilled_fault z st (Event.Writeback e) t k = absurd t

-- ── restart ──
pub restarted_chip : (z : Sizes) (d : Disk) → Within z → Copies z (R.restarted z d)
unfolding R.restarted counted
restarted_chip z d w = record { fit = empty_fit z; rules = empty_chip_holds z _ _ w.chip }
