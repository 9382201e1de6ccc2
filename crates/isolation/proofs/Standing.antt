-- Whatever its state, a record holds the words of the last finished write into it; one that none went into since the start holds the pack's.
use mathlib.Core.Path.{◌≡◌, refl, ap, sym, ◌∙◌, subst₂}
use mathlib.Core.Bool.{Bool, true, false}
use mathlib.Core.List.{List, ◌∷◌}
use Prim.Native.Nat.{ℕ, zero, suc, pred, ◌<◌, ◌+◌, ◌*◌}
use native.Mathlib.Omega.{arith}
use native.Mathlib.Decide.{ℕ_discrete}
use lib.Dec.{T, eqb}
use lib.ListN.{length}
use borrow.Author.Tests.{eq-eqb, ne_eqb}
use Rattle.tables.specs.Base.{at, if}
use Rattle.tables.specs.Laws.{T→true, not_zero, if_elim}
use Rattle.tables.specs.Questions.{Asked, none}
use Rattle.model.specs.declared.sizes.Sizes.{Sizes}
use Rattle.model.specs.declared.event.Design.TheVariants.{Create, Delete, Activate, Deactivate}
use Rattle.model.specs.declared.event.Account.TheVariants.{Limit, Move}
use Rattle.model.specs.declared.event.Page.TheVariants.{Fault, Read, Write, Wire, Unwire}
use Rattle.model.specs.declared.event.Writeback.TheVariants.{Claim, Truncate, Update, PageDone, MapDone}
use Rattle.model.specs.declared.event.Waiting.TheVariants.{Join, Turn}
use Rattle.model.specs.declared.event.Event.{Event}
use Rattle.model.specs.declared.event.Event.TheVariants as Event
use Rattle.model.specs.State.{Disk, State, files, frames, READING, WRITING}
use Rattle.model.specs.Setters.{counted}
use Rattle.model.specs.Parts.{word_at, set_part}
use Rattle.model.specs.Designs
use Rattle.model.specs.Accounts
use Rattle.model.specs.Pages
use Rattle.model.specs.Writeback as Writeback
use Rattle.model.specs.Writeback.{record_in}
use Rattle.model.specs.Line
use Rattle.model.specs.Laws.Ruled.{Ruled}
use Rattle.model.specs.Laws.Fit.{Fit}
use Rattle.model.specs.Questions.{Turning, nobody, serves, goes_back, faults, claims, sends_away, questions, turning}
use Rattle.model.specs.Step.{carried}
use Rattle.model.specs.Ledger as L
use Rattle.model.specs.Ledger.{Ledger, note, ended, voided, finish_write, finish_update, strike_write, strike_update}
use Rattle.model.specs.Demand3.{last_into}
use Rattle.model.specs.Acts.{event, World, fed, fed_turn}
use Rattle.invariant.proofs.Cases.{fault_by, claim_by}
use Rattle.invariant.proofs.FrameParts.{part_set, part_other}
use Rattle.invariant.proofs.Stands.{seat_at, moving_place}
use Rattle.crash.proofs.Writes.{last_here, last_there, no_write_holds}
use Rattle.crash.proofs.Link.{InMemory}

pub record Standing (z : Sizes) (word : ℕ → ℕ) (pack : Disk) (finished : List L.Write) (r k : ℕ) : Type 0 where
  pub wrote : 0 < (last_into r finished).serial → word (r * z.words + k) ≡ (last_into r finished).words k
  pub none : (last_into r finished).serial ≡ 0 → word (r * z.words + k) ≡ at pack.records (r * z.words + k)

abbrev pub Stand : Sizes → (ℕ → ℕ) → Disk → List L.Write → Type 0
Stand z word pack finished = (r : ℕ) → r < z.records → (k : ℕ) → k < z.words → Standing z word pack finished r k

abbrev pub Stands : Sizes → World → Type 0
Stands z w = Stand z (at w.state.disk.records) w.ledger.pack w.ledger.finished

-- one more finished write: its record takes its words
pub stand_write : (z : Sizes) (xs : List ℕ) (pack : Disk) (finished : List L.Write) (x : L.Write) (n r₀ : ℕ) (word : ℕ → ℕ) → length xs ≡ z.records * z.words → r₀ ≡ x.record' → r₀ < z.records
    → ((k : ℕ) → k < z.words → word k ≡ x.words k) → Stand z (at xs) pack finished → Stand z (at (set_part z r₀ word xs)) pack (ended x (suc n) ∷ finished)
stand_write z xs pack finished x n r₀ word len same h words s r hr k hk = elim (ℕ_discrete r r₀) [
  | yes e ↦ let o : last_into r (ended x (suc n) ∷ finished) ≡ ended x (suc n) = last_here (ended x (suc n)) finished r (sym same ∙ sym e) in record {
    wrote = λ t. rw (o, e) (part_set z z.records xs len r₀ word k hk h ∙ words k hk);
    none = λ t. absurd (omega (arith, sym (ap (λ (y : L.Write). y.serial) o) ∙ t));
  }
  | no e ↦ let o : last_into r (ended x (suc n) ∷ finished) ≡ last_into r finished = last_there (ended x (suc n)) finished r (λ q. e (sym q ∙ sym same)) in let p = part_other z z.records xs len r₀ word k hk r hr e in record {
    wrote = λ t. rw o (p ∙ (s r hr k hk).wrote (rw o at t));
    none = λ t. p ∙ (s r hr k hk).none (rw o at t);
  }
]

-- ── a frame that is being written: its open write is into its page's record, of its words ──
pub record Writing (z : Sizes) (st : State) (l : Ledger) (f : ℕ) : Type 0 where
  pub within : record_in z st f < z.records
  pub same : record_in z st f ≡ (l.pending.write f).record'
  pub words : (k : ℕ) → k < z.words → word_at z st.memory.core.words f k ≡ (l.pending.write f).words k
  pub flag : T (l.pending.writing f)

pub writing_frame : (z : Sizes) (st : State) (l : Ledger) → Ruled z st → InMemory z st l → (f : ℕ) → f < z.frames → ((frames st).frame f).transfer ≡ WRITING → Writing z st l f
writing_frame z st l r m f h t =
    let i = pred ((frames st).frame f).page in
    let p : ((frames st).frame f).page ≡ suc i = not_zero ((frames st).frame f).page (r.frames.busy f h (omega (arith, moving_place (seat_at z st r f h) (λ e. omega (arith, e, t))))) in
    let o = (m.framed f h).holding i p in let x = o.opened t in
    record {
      within = r.records.address_fit_holds i ((r.frames.fit f h).0 i p) (record_in z st f) (not_zero ((files st).address i) (λ e. omega (arith, e, x.record')));
      same = ap pred x.record';
      words = λ k k'. o.said (λ e. omega (arith, e, t)) k k' ∙ sym (x.words k k');
      flag = (m.framed f h).opened t;
    }

-- ── the events: only a good page done changes a record, or finishes a write ──
module _ (z : Sizes) (st : State) (l : Ledger) where
  abbrev Records : State → Type 0
  Records x = x.disk.records ≡ st.disk.records

  fault_records : (s p : ℕ) → Records (Pages.fault z st s p)
  unfolding Pages.begin_read Pages.serve_zeros Pages.take_record counted
  fault_records s p = fault_by z st Records s p refl (λ r. refl) refl

  claim_records : Records (Writeback.claim z st)
  unfolding Writeback.free_frame counted
  claim_records = claim_by z st Records refl refl refl

  map_records : (s good : ℕ) → Records (Writeback.map_done z st s good)
  unfolding Writeback.map_done Writeback.store_image counted
  map_records s good = if_elim Records (eqb good 1) _ _ (λ t. refl) (λ t. refl)

  turned_records : (t : Turning) → Records (Line.turned z st t)
  turned_records nobody = refl
  turned_records serves = refl
  turned_records goes_back = refl
  turned_records faults = fault_records _ _
  turned_records claims = claim_records
  turned_records (sends_away n) = refl

  -- the ledger's finished writes
  abbrev Finished : Ledger → Type 0
  Finished x = x.finished ≡ l.finished

  claimed_finished : (f n : ℕ) → Finished (note z l (L.claimed f n))
  unfolding note
  claimed_finished f zero = if_elim Finished (voided z l (l.pending.noted f).place) _ _ (λ t. refl) (λ t. refl)
  claimed_finished f (suc r) = refl

  map_finished : (s good : ℕ) → Finished (note z l (L.map_end s good))
  unfolding note finish_update strike_update
  map_finished s good = if_elim Finished (eqb good 1) _ _ (λ t. if_elim Finished (l.pending.updating s) _ _ (λ u. refl) (λ u. refl)) (λ t. refl)

  turned_finished : (t : Turning) → Finished (note z l (fed_turn z st t))
  unfolding note fed
  turned_finished nobody = refl
  turned_finished serves = refl
  turned_finished goes_back = refl
  turned_finished faults = refl
  turned_finished claims = let f = (Writeback.looking z st).taken in claimed_finished f (if (Writeback.begins_write z st) (suc (record_in z st f)) 0)
  turned_finished (sends_away n) = refl

  as_before : (x : State) (y : Ledger) → Records x → Finished y → Stand z (at st.disk.records) l.pack l.finished → Stand z (at x.disk.records) l.pack y.finished
  as_before x y p q s = subst₂ (λ (a : List ℕ) (b : List L.Write). Stand z (at a) l.pack b) (sym p) (sym q) s

  -- a page done
  module _ (f : Fit z st) (r : Ruled z st) (m : InMemory z st l) (s : Stand z (at st.disk.records) l.pack l.finished) where
    written : (g : ℕ) → g < z.frames → ((frames st).frame g).transfer ≡ WRITING → Stand z (at (counted z (Writeback.write_good z st g)).disk.records) l.pack (finish_write g l).finished
    unfolding counted Writeback.write_good Writeback.free_frame Writeback.store_frame finish_write
    written g h t = let o = writing_frame z st l r m g h t in
        rw (T→true (l.pending.writing g) o.flag) (stand_write z st.disk.records l.pack l.finished (l.pending.write g) (length l.finished) (record_in z st g) (word_at z st.memory.core.words g) f.disk.records o.same o.within o.words s)

    done_stands : (g good : ℕ) → Asked (questions z st (Event.Writeback (PageDone g good))) → Stand z (at (Writeback.page_done z st g good).disk.records) l.pack (note z l (L.page_end g good)).finished
    unfolding Writeback.page_done note counted Writeback.read_good Writeback.read_failed Writeback.write_failed Writeback.free_frame strike_write
    done_stands g good q = go (eqb good 1) (ℕ_discrete ((frames st).frame g).transfer READING)
      where
        t : ℕ
        t = ((frames st).frame g).transfer

        go : (b : Bool) → Dec (t ≡ READING) → Stand z (at (counted z (if (eqb t READING) (if b (Writeback.read_good z st g) (Writeback.read_failed z st g)) (if b (Writeback.write_good z st g) (Writeback.write_failed z st g)))).disk.records) l.pack (if b (finish_write g l) (strike_write g l)).finished
        go true (yes e) = rw (eq-eqb t READING e, no_write_holds g l (λ x. omega (arith, e, (m.framed g q.0.0).only x))) s
        go false (yes e) = rw (eq-eqb t READING e) s
        go true (no e) = rw (ne_eqb t READING e) (written g q.0.0 (omega (arith, e, q.1.0, (r.frames.fit g q.0.0).1.1.1.1.1)))
        go false (no e) = rw (ne_eqb t READING e) s

    turn_stands : Stand z (at (Line.turn z st).disk.records) l.pack (note z l (fed z st (Event.Waiting Turn))).finished
    unfolding Line.turn fed
    turn_stands = as_before (Line.turned z st (turning z st)) (note z l (fed_turn z st (turning z st))) (turned_records (turning z st)) (turned_finished (turning z st)) s

    -- every event
    pub carried_stands : (e : Event) → Asked (questions z st e) → Stand z (at (carried z st e).disk.records) l.pack (note z l (fed z st e)).finished
    unfolding carried fed note counted Designs.create Designs.delete Designs.activate Designs.deactivate Accounts.limit Accounts.move Pages.read Pages.write Pages.wire Pages.unwire Writeback.truncate Writeback.update Line.join
    carried_stands (Event.Design (Create a q n)) k = s
    carried_stands (Event.Design (Delete a)) k = s
    carried_stands (Event.Design (Activate a)) k = s
    carried_stands (Event.Design (Deactivate a)) k = s
    carried_stands (Event.Account (Limit q n)) k = s
    carried_stands (Event.Account (Move g t n)) k = s
    carried_stands (Event.Page (Fault a p)) k = rw (fault_records a p) s
    carried_stands (Event.Page (Read a p w)) k = s
    carried_stands (Event.Page (Write a p w x)) k = s
    carried_stands (Event.Page (Wire a p)) k = s
    carried_stands (Event.Page (Unwire a p)) k = s
    carried_stands (Event.Writeback Claim) k = let g = (Writeback.looking z st).taken in as_before (Writeback.claim z st) (note z l (fed z st (Event.Writeback Claim))) claim_records (claimed_finished g (if (Writeback.begins_write z st) (suc (record_in z st g)) 0)) s
    carried_stands (Event.Writeback (Truncate a n)) k = s
    carried_stands (Event.Writeback (Update a)) k = s
    carried_stands (Event.Writeback (PageDone g good)) k = done_stands g good k
    carried_stands (Event.Writeback (MapDone a good)) k = as_before (Writeback.map_done z st a good) (note z l (L.map_end a good)) (map_records a good) (map_finished a good) s
    carried_stands (Event.Waiting (Join a p)) k = s
    carried_stands (Event.Waiting Turn) k = turn_stands
