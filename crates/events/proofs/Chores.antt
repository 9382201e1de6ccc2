-- What an event leaves, the chip with it, is what its own work leaves, tended by the chore that the tables before it tell.
use mathlib.Core.Path.{◌≡◌, refl, ap, sym, ◌∙◌}
use mathlib.Core.Bool.{Bool, true, false}
use mathlib.Core.List.{List, []}
use Prim.Native.Nat.{ℕ, suc, ◌<◌, pred}
use native.Mathlib.Omega.{arith}
use native.Mathlib.Decide.{ℕ_discrete}
use lib.Dec.{T, eqb}
use borrow.Author.Tests.{eq-eqb, ne_eqb}
use Rattle.tables.specs.Base.{at, if}
use Rattle.tables.specs.Queue.{size, first}
use Rattle.tables.specs.QueueLaws.{first_in, first_below}
use Rattle.tables.specs.QueueEntries.{size_more, size_zero}
use Rattle.tables.specs.Questions.{Questions, Asked, none, ask, first_no, yes_all}
use Rattle.tables.specs.Rule.{below, untold}
use Rattle.model.specs.declared.sizes.Sizes.{Sizes}
use Rattle.model.specs.declared.frame.Frame.{Frame}
use Rattle.model.specs.declared.event.Design.TheVariants.{Create, Delete, Activate, Deactivate}
use Rattle.model.specs.declared.event.Page.TheVariants.{Fault, Read, Write, Wire, Unwire}
use Rattle.model.specs.declared.event.Writeback.TheVariants.{Claim, Truncate, Update, PageDone, MapDone}
use Rattle.model.specs.declared.event.Waiting.TheVariants.{Join, Turn}
use Rattle.model.specs.declared.event.Event.{Event}
use Rattle.model.specs.State.{Core, Chip, State, files, frames, frame_at, NONE}
use Rattle.model.specs.Setters.{on_core, set_chip, set_line}
use Rattle.model.specs.Questions.{Turning, nobody, serves, goes_back, faults, claims, sends_away, next_fault, turning, questions, page_questions, turn_questions}
use Rattle.model.specs.Chip.{found, arrives, only_live}
use Rattle.model.specs.Pages.{fault_frame}
use Rattle.model.specs.Writeback
use Rattle.model.specs.Writeback.{looking, begins_write, record_in}
use Rattle.model.specs.Line
use Rattle.model.specs.Step.{carried, turn_faults, is_fault, supplied, filled, whole}
use Rattle.model.specs.Laws.LineLaws.{Treats, faulting, claiming, treats}
use Rattle.model.specs.Laws.Nulled.{claim_nulls, turn_nulls, nulled_by}
use Rattle.model.specs.Laws.Unasked.{needless, not_asked}
use Rattle.model.specs.Laws.Ruled.{Ruled}
use Rattle.model.specs.Laws.Fit.{Fit}
use Rattle.invariant.proofs.Chip.{nothing_dropped}
use Rattle.invariant.proofs.ChipKept.{Copies}
use Rattle.invariant.proofs.ChipLaws.{leaves, chip_stays, put_keeps, dropped, claim_drops}
use Rattle.invariant.proofs.Stands.{seat_at, still}
use Rattle.events.specs.declared.chore.Chore.{Chore}
use Rattle.events.specs.declared.chore.Chore.TheVariants.{Take, Put, Forget}
use Rattle.events.specs.Chores.{chore_of, forgotten, tended}

-- all questions but the last
abbrev but_last : Questions → Questions
but_last none = none
but_last (ask n r none) = none
but_last (ask n r (ask m s rest)) = ask n r (but_last (ask m s rest))

module _ (z : Sizes) (st : State) (fits : Fit z st) (r : Ruled z st) (c : Copies z st) where
  abbrev k : Chip
  k = st.memory.chip

  abbrev queue : List ℕ
  queue = st.memory.core.free_queue

  -- the chip as it was, where no live record is less so
  stays : (e : Event) → T (leaves e) → Asked (questions z st e) → whole z st e ≡ set_chip k (supplied z st e)
  unfolding whole
  stays e t a = ap (λ (x : Chip). set_chip x (supplied z st e)) (chip_stays z st fits r c e t a)

  -- no fault: no frame takes a copy
  unsupplied : (e : Event) → is_fault z st e ≡ false → supplied z st e ≡ carried z st e
  unfolding supplied
  unsupplied e h = ap (λ (b : Bool). on_core (λ o. if b (arrives z k (carried z st e) (fault_frame st) o) o) (carried z st e)) h

  rests : (e : Event) → T (leaves e) → is_fault z st e ≡ false → Asked (questions z st e) → whole z st e ≡ set_chip k (carried z st e)
  rests e t h a = stays e t a ∙ ap (set_chip k) (unsupplied e h)

  drops : (e : Event) → is_fault z st e ≡ false → filled z st e k ≡ k → whole z st e ≡ set_chip (only_live z (files (carried z st e)).state k) (carried z st e)
  unfolding whole
  drops e h n = (λ x. set_chip (only_live z (files (carried z st e)).state (n x)) (unsupplied e h x))

  fault_tended : (s p : ℕ) → Asked (questions z st (Event.Page (Fault s p))) → whole z st (Event.Page (Fault s p)) ≡ tended z (Take (first queue)) 0 k (carried z st (Event.Page (Fault s p)))
  unfolding supplied is_fault fault_frame
  fault_tended s p a = stays (Event.Page (Fault s p)) tt a

  putting : (f : ℕ) → Asked (questions z st (Event.Writeback (PageDone f 1))) → whole z st (Event.Writeback (PageDone f 1)) ≡ tended z (Put (record_in z st f)) 0 k (carried z st (Event.Writeback (PageDone f 1)))
  unfolding whole supplied is_fault
  putting f a = ap (λ (x : Chip). set_chip x (supplied z st (Event.Writeback (PageDone f 1)))) (put_keeps z st fits r c f a)

  -- ── a claim ──
  -- the copy that it drops is that of the record it tells
  claim_chip : Asked (questions z st (Event.Writeback Claim)) → only_live z (files (Writeback.claim z st)).state k ≡ forgotten z (claim_nulls z st) k
  unfolding whole filled carried claim_nulls
  claim_chip a = claim_drops z st c ∙ rw (yes_all (questions z st (Event.Writeback Claim)) a) (go (begins_write z st) (eqb ((frames st).frame (looking z st).taken).modified 1))
    where
      go : (b m : Bool) → if b k (if m (dropped z (record_in z st (looking z st).taken) k) k) ≡ forgotten z (if b 0 (if m (suc (record_in z st (looking z st).taken)) 0)) k
      go true m = refl
      go false true = refl
      go false false = refl

  claim_tended : Asked (questions z st (Event.Writeback Claim)) → whole z st (Event.Writeback Claim) ≡ tended z Forget (nulled_by z st (Event.Writeback Claim)) k (carried z st (Event.Writeback Claim))
  unfolding is_fault filled carried nulled_by
  claim_tended a = drops (Event.Writeback Claim) refl refl ∙ ap (λ (x : Chip). set_chip x (carried z st (Event.Writeback Claim))) (claim_chip a)

  -- ── a turn ──
  -- a queued frame awaits nothing
  unread : 0 < size queue → (x : State) → x.memory.core.frames ≡ st.memory.core.frames → (o : Core) → arrives z k x (first queue) o ≡ o
  unfolding arrives
  unread h x e o = rw (untold (found z k x (first queue)) (λ y. let s : ((frames st).frame (first queue)).transfer ≡ NONE = quiet in omega (arith, y.0, s, ap (λ (fs : List Frame). (frame_at fs (first queue)).transfer) e))) refl
    where
      quiet : ((frames st).frame (first queue)).transfer ≡ NONE
      quiet = still (seat_at z st r (first queue) (first_below queue fits.memory.free_queue r.queues.free_queue h)) (omega (arith, first_in queue h))

  -- a turn that claims found no frame queued
  none_queued : first_no (page_questions z st (next_fault z st)) ≡ 20 → ¬ (0 < size queue)
  none_queued e h =
      let q = but_last (page_questions z st (next_fault z st)) in
      not_asked 20 q (λ x. omega (arith, x)) (λ t. t) (sym (needless q 20 (below 0 (size queue)) (λ a. h)) ∙ e)

  abbrev after : Turning → State
  after t = set_chip (only_live z (files (Line.turned z st t)).state k) (on_core (λ o. if (turn_faults t) (arrives z k (Line.turned z st t) (fault_frame st) o) o) (Line.turned z st t))

  live : only_live z (files st).state k ≡ k
  live = nothing_dropped z k c.fit (files st).state (λ b h q e. (c.rules.live b h q e).0)

  -- none queued: it may have claimed
  forgot : size queue ≡ 0 → (t : Turning) → Treats z st t → Asked (turn_questions z st t) → after t ≡ tended z Forget (turn_nulls z st t) k (Line.turned z st t)
  forgot n nobody h a = ap (λ (x : Chip). set_chip x (Line.turned z st nobody)) live
  forgot n serves h a = ap (λ (x : Chip). set_chip x (Line.turned z st serves)) live
  forgot n goes_back h a = ap (λ (x : Chip). set_chip x (Line.turned z st goes_back)) live
  forgot n faults (faulting w i q) a = absurd (omega (arith, n, q.1.1.1.1.1.1.0))
  forgot n claims h a = ap (λ (x : Chip). set_chip x (Line.turned z st claims)) (claim_chip a)
  forgot n (sends_away m) h a = ap (λ (x : Chip). set_chip x (Line.turned z st (sends_away m))) live

  -- one queued: it may have faulted
  quietly : 0 < size queue → (l : List ℕ) → set_chip (only_live z (files st).state k) (set_line l st) ≡ tended z (Take (first queue)) 0 k (set_line l st)
  quietly n l = λ x. set_chip (live x) (on_core (λ o. sym (unread n (set_line l st) refl o) x) (set_line l st))

  -- what a turn that faults leaves of the chip
  fault_live : Asked (page_questions z st (next_fault z st)) → only_live z (files (Line.turned z st faults)).state k ≡ k
  unfolding whole filled carried
  fault_live a = chip_stays z st fits r c (Event.Page (next_fault z st)) tt a

  took : 0 < size queue → (t : Turning) → Treats z st t → after t ≡ tended z (Take (first queue)) (turn_nulls z st t) k (Line.turned z st t)
  unfolding fault_frame
  took n nobody h = quietly n st.memory.line
  took n serves h = quietly n _
  took n goes_back h = quietly n _
  took n faults (faulting w i a) = ap (λ (x : Chip). set_chip x (on_core (arrives z k (Line.turned z st faults) (first queue)) (Line.turned z st faults))) (fault_live a)
  took n claims (claiming w i e) = absurd (none_queued e n)
  took n (sends_away m) h = quietly n _

  turn_tended : Asked (questions z st (Event.Waiting Turn))
      → whole z st (Event.Waiting Turn) ≡ tended z (chore_of [] queue [] (Event.Waiting Turn)) (nulled_by z st (Event.Waiting Turn)) k (carried z st (Event.Waiting Turn))
  unfolding whole supplied filled is_fault carried Line.turn nulled_by
  turn_tended a = elim (ℕ_discrete (at queue 0) 0) [
    | yes e ↦ rw (eq-eqb (at queue 0) 0 e) (forgot (size_zero queue e) (turning z st) (treats z st) a)
    | no e ↦ rw (ne_eqb (at queue 0) 0 e) (took (size_more queue 0 (omega arith) e) (turning z st) (treats z st))
  ]

  -- ── every event ──
  -- fs: the frames, of which those in use are the state's
  module _ (fs : List Frame) (same : (f : ℕ) → f < z.frames → frame_at fs f ≡ (frames st).frame f) where
    abbrev chore : Event → Chore
    chore e = chore_of fs queue st.memory.held.addresses e

    done_tended : (f good : ℕ) → Asked (questions z st (Event.Writeback (PageDone f good))) → whole z st (Event.Writeback (PageDone f good)) ≡ tended z (chore (Event.Writeback (PageDone f good))) 0 k (carried z st (Event.Writeback (PageDone f good)))
    unfolding is_fault
    done_tended f good a = elim (ℕ_discrete good 1) [
      | yes e ↦ rw (eq-eqb good 1 e) (rw e (put f (rw e at a)))
      | no e ↦ rw (ne_eqb good 1 e) (rests (Event.Writeback (PageDone f good)) (rw (ne_eqb good 1 e) tt) refl a)
    ]
      where
        put : (f : ℕ) → Asked (questions z st (Event.Writeback (PageDone f 1))) → whole z st (Event.Writeback (PageDone f 1)) ≡ tended z (Put (pred ((files st).address (pred (frame_at fs f).page)))) 0 k (carried z st (Event.Writeback (PageDone f 1)))
        put f a = rw (same f a.0.0) (putting f a)

    pub whole_tended : (e : Event) → Asked (questions z st e) → whole z st e ≡ tended z (chore e) (nulled_by z st e) k (carried z st e)
    unfolding is_fault filled nulled_by
    whole_tended (Event.Design (Create s q n)) a = rests (Event.Design (Create s q n)) tt refl a
    whole_tended (Event.Design (Delete s)) a = rests (Event.Design (Delete s)) tt refl a
    whole_tended (Event.Design (Activate s)) a = rests (Event.Design (Activate s)) tt refl a
    whole_tended (Event.Design (Deactivate s)) a = drops (Event.Design (Deactivate s)) refl refl
    whole_tended (Event.Account e) a = rests (Event.Account e) tt refl a
    whole_tended (Event.Page (Fault s p)) a = fault_tended s p a
    whole_tended (Event.Page (Read s p w)) a = rests (Event.Page (Read s p w)) tt refl a
    whole_tended (Event.Page (Write s p w x)) a = rests (Event.Page (Write s p w x)) tt refl a
    whole_tended (Event.Page (Wire s p)) a = rests (Event.Page (Wire s p)) tt refl a
    whole_tended (Event.Page (Unwire s p)) a = rests (Event.Page (Unwire s p)) tt refl a
    whole_tended (Event.Writeback Claim) a = claim_tended a
    whole_tended (Event.Writeback (Truncate s n)) a = drops (Event.Writeback (Truncate s n)) refl refl
    whole_tended (Event.Writeback (Update s)) a = rests (Event.Writeback (Update s)) tt refl a
    whole_tended (Event.Writeback (PageDone f good)) a = done_tended f good a
    whole_tended (Event.Writeback (MapDone s good)) a = rests (Event.Writeback (MapDone s good)) tt refl a
    whole_tended (Event.Waiting (Join s p)) a = rests (Event.Waiting (Join s p)) tt refl a
    whole_tended (Event.Waiting Turn) a = turn_tended a
