-- From what an event's own work leaves to what the event leaves: refused, all is as it was; carried out, it is tended by its chore.
use mathlib.Core.Path.{◌≡◌, refl, ap, sym, ◌∙◌}
use mathlib.Core.List.{List, [], ◌∷◌}
use Prim.Native.Nat.{ℕ, zero, suc, ◌<◌, pred}
use native.Mathlib.Omega.{arith}
use lib.Dec.{eqb}
use Rattle.tables.specs.Base.{at}
use Rattle.tables.specs.Laws.{if_elim, not_zero}
use lib.ListN.{length}
use Rattle.tables.specs.Queue.{members, head, first, size}
use Rattle.tables.specs.QueueLaws.{first_below}
use Rattle.tables.specs.Questions.{Asked, first_no, all_yes}
use Rattle.model.specs.declared.sizes.Sizes.{Sizes}
use Rattle.model.specs.declared.frame.Frame.{Frame}
use Rattle.model.specs.declared.event.Answer.{Answer}
use Rattle.model.specs.declared.event.Design.TheVariants.{Create, Delete, Activate, Deactivate}
use Rattle.model.specs.declared.event.Page.TheVariants.{Fault, Read, Write, Wire, Unwire}
use Rattle.model.specs.declared.event.Writeback.TheVariants.{Claim, Truncate, Update, PageDone, MapDone}
use Rattle.model.specs.declared.event.Waiting.TheVariants.{Join, Turn}
use Rattle.model.specs.declared.event.Event.{Event}
use Rattle.model.specs.State.{Chip, State, files, frames, frame_at, NONE, READING}
use Rattle.model.specs.Questions.{Turning, nobody, serves, goes_back, faults, claims, sends_away, turning, questions, turn_questions}
use Rattle.model.specs.Setters.{set_chip}
use Rattle.model.specs.Writeback.{looking, begins_write, zeros, record_in}
use Rattle.model.specs.Step.{Outcome, outcome, carried, result, whole, own_above}
use Rattle.model.specs.Laws.Own.{own, own_whole, leaves}
use Rattle.model.specs.Laws.Ruled.{Ruled}
use Rattle.model.specs.Laws.Fit.{Fit}
use Rattle.invariant.proofs.ChipKept.{Copies}
use Rattle.invariant.proofs.Kept.{carried_kept}
use Rattle.model.specs.Laws.Nulled.{claim_nulls, turn_nulls, nulled_by}
use Rattle.invariant.proofs.FramesClaim.{taken_below, taken_busy}
use Rattle.invariant.proofs.Stands.{seat_at, moving_place}
use Rattle.writeback.proofs.Ready.{list_room}
use Rattle.chips.specs.Seen.{Awaiting}
use Rattle.events.specs.declared.chore.Chore.{Chore}
use Rattle.events.specs.declared.chore.Chore.TheVariants.{Rest, Forget}
use Rattle.events.specs.Chores.{chore_of, tended}
use Rattle.events.specs.Tends.{Needed, Tending}
use Rattle.events.proofs.Chores.{whole_tended}

-- nor does what is told look at the chip
pub nulls_chip : (k : Chip) (z : Sizes) (st : State) (e : Event) → nulled_by z (set_chip k st) e ≡ nulled_by z st e
unfolding nulled_by claim_nulls looking begins_write zeros turning
nulls_chip k z st (Event.Design e) = refl
nulls_chip k z st (Event.Account e) = refl
nulls_chip k z st (Event.Page e) = refl
nulls_chip k z st (Event.Writeback Claim) = refl
nulls_chip k z st (Event.Writeback (Truncate s p)) = refl
nulls_chip k z st (Event.Writeback (Update s)) = refl
nulls_chip k z st (Event.Writeback (PageDone f good)) = refl
nulls_chip k z st (Event.Writeback (MapDone s good)) = refl
nulls_chip k z st (Event.Waiting (Join s p)) = refl
nulls_chip k z st (Event.Waiting Turn) = refl

module _ (z : Sizes) (st : State) (fits : Fit z st) (r : Ruled z st) (c : Copies z st) (fs : List Frame) (same : (f : ℕ) → f < z.frames → frame_at fs f ≡ (frames st).frame f) (e : Event) where
  abbrev k : Chip
  k = st.memory.chip

  abbrev queue : List ℕ
  queue = st.memory.core.free_queue

  abbrev pub chore : Chore
  chore = chore_of fs queue st.memory.held.addresses e

  -- a frame that this state's free queue may give, in a state x that passes questions 1 and 2
  first_inside : first queue < z.frames
  unfolding first size head
  first_inside = go (members queue) (λ h. first_below queue fits.memory.free_queue r.queues.free_queue h)
    where
      go : (l : List ℕ) → (0 < length l → head l < z.frames) → head l < z.frames
      go [] h = fits.sizes.frames
      go (x ∷ l) h = h (omega arith)

  awaiting : (x : State) → Fit z x → Ruled z x → (f : ℕ) → f < z.frames → Awaiting z f x.memory.core.frames x.memory.core.words x.memory.core.removal_list k.words k.copies
  awaiting x fit rule f l = record {
    sizes = fit.sizes;
    inside = l;
    words = fit.memory.words;
    list_long = fit.memory.removal_list;
    list_packed = rule.queues.removal_list;
    places = record { words = c.fit.words; copies = c.fit.copies };
    paged = λ h. let b = rule.frames.busy f l (omega (arith, moving_place (seat_at z x rule f l) (moving h))) in omega (arith, not_zero ((frames x).frame f).page b);
    room = λ h. list_room z x fit rule f l (omega (arith, moving_place (seat_at z x rule f l) (moving h)));
  }
    where
      moving : ((frames x).frame f).transfer ≡ READING → ¬ (((frames x).frame f).transfer ≡ NONE)
      moving h n = omega (arith, h, n)

  -- the record of a frame in transfer exists
  exists : (f good : ℕ) → Asked (questions z st (Event.Writeback (PageDone f good))) → record_in z st f < z.records
  exists f good a = r.records.address_fit_holds (pred ((frames st).frame f).page) ((r.frames.fit f a.0.0).0 (pred ((frames st).frame f).page) page) (record_in z st f) held
    where
      page : ((frames st).frame f).page ≡ suc (pred ((frames st).frame f).page)
      page = not_zero ((frames st).frame f).page (r.frames.busy f a.0.0 (omega (arith, moving_place (seat_at z st r f a.0.0) a.1.0)))

      held : (files st).address (pred ((frames st).frame f).page) ≡ suc (record_in z st f)
      held = not_zero ((files st).address (pred ((frames st).frame f).page)) (r.frames.held f a.0.0 (pred ((frames st).frame f).page) page).0

  -- what is told is a record's number + 1, or 0
  claim_below_holds : Asked (questions z st (Event.Writeback Claim)) → claim_nulls z st < 65536
  unfolding claim_nulls
  claim_below_holds a = if_elim Told (eqb (first_no (questions z st (Event.Writeback Claim))) 0) _ 0
      (λ t. if_elim Told (begins_write z st) 0 _ (λ u. omega arith) (λ u. if_elim Told (eqb ((frames st).frame f).modified 1) (suc (record_in z st f)) 0 (λ v. omega (arith, exists, fits.sizes.records_most)) (λ v. omega arith))) (λ t. omega arith)
    where
      Told : ℕ → Type 0
      Told n = n < 65536

      f : ℕ
      f = (looking z st).taken

      page : ((frames st).frame f).page ≡ suc (pred ((frames st).frame f).page)
      page = not_zero ((frames st).frame f).page (taken_busy z st fits r a.0)

      held : (files st).address (pred ((frames st).frame f).page) ≡ suc (record_in z st f)
      held = not_zero ((files st).address (pred ((frames st).frame f).page)) (r.frames.held f (taken_below z st fits r a.0) (pred ((frames st).frame f).page) page).0

      exists : record_in z st f < z.records
      exists = r.records.address_fit_holds (pred ((frames st).frame f).page) ((r.frames.fit f (taken_below z st fits r a.0)).0 (pred ((frames st).frame f).page) page) (record_in z st f) held

  turn_below : (t : Turning) → Asked (turn_questions z st t) → turn_nulls z st t < 65536
  turn_below nobody a = omega arith
  turn_below serves a = omega arith
  turn_below goes_back a = omega arith
  turn_below faults a = omega arith
  turn_below claims a = claim_below_holds a
  turn_below (sends_away n) a = omega arith

  nulled_below : (e : Event) → Asked (questions z st e) → nulled_by z st e < 65536
  unfolding nulled_by
  nulled_below (Event.Design e) a = omega arith
  nulled_below (Event.Account e) a = omega arith
  nulled_below (Event.Page e) a = omega arith
  nulled_below (Event.Writeback Claim) a = claim_below_holds a
  nulled_below (Event.Writeback (Truncate s n)) a = omega arith
  nulled_below (Event.Writeback (Update s)) a = omega arith
  nulled_below (Event.Writeback (PageDone f good)) a = omega arith
  nulled_below (Event.Writeback (MapDone s good)) a = omega arith
  nulled_below (Event.Waiting (Join s p)) a = omega arith
  nulled_below (Event.Waiting Turn) a = turn_below (turning z st) a

  abbrev Need : State → Chore → Type 0
  Need x = Needed z k x.memory.core.frames x.memory.core.words x.memory.core.removal_list

  needed : (x : State) → Fit z x → Ruled z x → Asked (questions z st e) → Need x chore
  needed x fit rule a = go e a
    where
      go : (e : Event) → Asked (questions z st e) → Need x (chore_of fs queue st.memory.held.addresses e)
      go (Event.Design (Create s q n)) a = tt
      go (Event.Design (Delete s)) a = tt
      go (Event.Design (Activate s)) a = tt
      go (Event.Design (Deactivate s)) a = tt
      go (Event.Account e) a = tt
      go (Event.Page (Fault s p)) a = awaiting x fit rule (first queue) first_inside
      go (Event.Page (Read s p w)) a = tt
      go (Event.Page (Write s p w v)) a = tt
      go (Event.Page (Wire s p)) a = tt
      go (Event.Page (Unwire s p)) a = tt
      go (Event.Writeback Claim) a = tt
      go (Event.Writeback (Truncate s n)) a = tt
      go (Event.Writeback (Update s)) a = tt
      go (Event.Writeback (PageDone f good)) a = if_elim (Need x) (eqb good 1) _ Rest (λ t. rw (same f a.0.0) (exists f good a)) (λ t. tt)
      go (Event.Writeback (MapDone s good)) a = tt
      go (Event.Waiting (Join s p)) a = tt
      go (Event.Waiting Turn) a = if_elim (Need x) (eqb (at queue 0) 0) Forget _ (λ t. tt) (λ t. awaiting x fit rule (first queue) first_inside)

  -- what the event's own work answered and left
  module _ {a : Answer} {x : State} (h : ◌≡◌ {A = Outcome State} (leaves a x) (own z st e)) where
    by : (n : ℕ) → first_no (questions z st e) ≡ n → ◌≡◌ {A = Outcome State} (leaves a x) (outcome n (result z st e) st (carried z st e)) → a.refusal ≡ 0 → (n ≡ 0) × (x ≡ carried z st e)
    by zero q h n = (refl, ap (λ (o : Outcome State). o.left) h)
    by (suc m) q h n = absurd (omega (arith, n, ap (λ (o : Outcome State). o.answer.refusal) h))

    done : a.refusal ≡ 0 → Asked (questions z st e) × (x ≡ carried z st e)
    unfolding own
    done n = let d = by (first_no (questions z st e)) refl h n in (all_yes 2 (questions z st e) (own_above z st e) d.0, d.1)

    pub whole_refused : ¬ (a.refusal ≡ 0) → ◌≡◌ {A = Outcome State} (leaves a x) (own_whole z st e)
    unfolding own own_whole
    whole_refused n = go (first_no (questions z st e)) h
      where
        go : (m : ℕ) → ◌≡◌ {A = Outcome State} (leaves a x) (outcome m (result z st e) st (carried z st e)) → ◌≡◌ {A = Outcome State} (leaves a x) (outcome m (result z st e) st (whole z st e))
        go zero h = absurd (n (ap (λ (o : Outcome State). o.answer.refusal) h))
        go (suc m) h = h

    pub tending : a.refusal ≡ 0 → (told : ℕ) → told ≡ nulled_by z st e → Tending z chore told k x.memory.core.frames x.disk.records x.memory.core.words x.memory.core.removal_list
    tending n told t = let d = done n in let b = carried_kept z st e fits r d.0 in rw d.1 (record {
      sizes = fits.sizes;
      chip = c.fit;
      next = c.rules.next;
      records = b.0.disk.records;
      told_below = omega (arith, t, nulled_below e d.0);
      needed = needed (carried z st e) b.0 b.1 d.0;
    })

    pub whole_done : a.refusal ≡ 0 → (told : ℕ) → told ≡ nulled_by z st e → ◌≡◌ {A = Outcome State} (leaves a (tended z chore told k x)) (own_whole z st e)
    unfolding own own_whole
    whole_done n told t = ap (λ (m : ℕ). leaves a (tended z chore m k x)) t ∙ go (first_no (questions z st e)) h
      where
        go : (m : ℕ) → ◌≡◌ {A = Outcome State} (leaves a x) (outcome m (result z st e) st (carried z st e)) → ◌≡◌ {A = Outcome State} (leaves a (tended z chore (nulled_by z st e) k x)) (outcome m (result z st e) st (whole z st e))
        go zero h = (λ i. leaves (h i).answer (tended z chore (nulled_by z st e) k (h i).left)) ∙ ap (leaves (record { refusal = 0; result = result z st e })) (sym (whole_tended z st fits r c fs same e (done n).0))
        go (suc m) h = absurd (omega (arith, n, ap (λ (o : Outcome State). o.answer.refusal) h))
