-- What holds of the chip beyond its rules: a fault that finds a copy leaves what a fault and its good page done leave; which events leave the chip as it is; when the next place moves; what a claim of zeros drops.
use mathlib.Core.Path.{◌≡◌, refl, ap, sym, ◌∙◌}
use mathlib.Core.Bool.{Bool, true, false, not}
use mathlib.Core.Logic.{◌⊎◌, inl, inr}
use mathlib.Core.List.{List}
use Prim.Native.Nat.{ℕ, suc, ◌/◌, ◌%◌, ◌<◌, pred}
use native.Mathlib.Omega.{arith}
use native.Mathlib.Decide.{ℕ_discrete, dec_lt}
use lib.Dec.{T, eqb, T_not, eqb→eq}
use lib.ListN.{length, set, length-set, get_or-eq_default}
use lib.Seq.{get_or-set_same, get_or-set_other}
use Rattle.tables.specs.Base.{at, if}
use Rattle.tables.specs.CountLaws.{count_some}
use Rattle.tables.specs.Laws.{if_elim, T→true, not_zero}
use borrow.Author.Tests.{eq-eqb}
use Rattle.tables.specs.Rule.{Rule, Holds, same, ◌and◌, test, told, untold, decided, sound}
use Rattle.tables.specs.Questions.{Asked}
use Rattle.tables.specs.Store.{store, at_store, choose_ext, choose_same, choose}
use Rattle.model.specs.declared.sizes.Sizes.{Sizes}
use Rattle.model.specs.declared.event.Design.TheVariants.{Create, Delete, Activate, Deactivate}
use Rattle.model.specs.declared.event.Account.TheVariants.{Limit, Move}
use Rattle.model.specs.declared.event.Page.TheVariants.{Fault, Read, Write, Wire, Unwire}
use Rattle.model.specs.declared.event.Writeback.TheVariants.{Claim, Truncate, Update, PageDone, MapDone}
use Rattle.model.specs.declared.event.Waiting.TheVariants.{Join, Turn}
use Rattle.model.specs.declared.event.Event.{Event}
use Rattle.model.specs.declared.event.Event.TheVariants as Event
use Rattle.model.specs.Lines.{FREE, FILED, NULLED, LIVE, RELEASED}
use Rattle.model.specs.State.{Chip, State, files, frames, READING, WRITING, page_of, live, free_count}
use Rattle.model.specs.Setters.{on_core, on_held, set_states, set_transfer, counted}
use Rattle.model.specs.Parts.{set_part, word_at, pick}
use Rattle.model.specs.Laws.Choice.{pick_free}
use Rattle.model.specs.Questions.{questions}
use Rattle.model.specs.Chip.{has_copy, place_of, place_for, copied, found, arrives, stale, only_live}
use Rattle.model.specs.Designs
use Rattle.model.specs.Accounts
use Rattle.model.specs.Pages
use Rattle.model.specs.Pages.{on_frame, fault_frame}
use Rattle.model.specs.Writeback
use Rattle.model.specs.Writeback.{looking, looked, begins_write, record_in, free_frame}
use Rattle.model.specs.Line
use Rattle.model.specs.Step.{carried, is_fault, supplied, filled, whole}
use Rattle.model.specs.Laws.Index.{split_set}
use Rattle.model.specs.Laws.Ruled.{Ruled}
use Rattle.model.specs.Laws.Fit.{Fit, ChipFit}
use Rattle.invariant.proofs.Cases.{page_done_by}
use Rattle.invariant.proofs.Chip.{place_of_holds, nothing_dropped, copied_holds, copied_fit}
use Rattle.invariant.proofs.Stands.{seat_at, moving_place}
use Rattle.invariant.proofs.ChipKept.{Copies}
use Rattle.invariant.proofs.ChipServed.{as_read}
use Rattle.invariant.proofs.Kept.{carried_kept, faulting_sound}

-- ── in service as after a good read ──
-- A fault on a live address found in the chip leaves, in every table, what a fault that begins a read and the good done of that read leave.
pub fault_and_done : (z : Sizes) (st : State) (e : Event) → Fit z st → Ruled z st → Copies z st → Asked (questions z st e) → T (is_fault z st e) → Holds (found z st.memory.chip (carried z st e) (fault_frame st))
    → counted z (supplied z st e) ≡ carried z (carried z st e) (Event.Writeback (PageDone (fault_frame st) 1))
unfolding supplied arrives carried Writeback.page_done
fault_and_done z st e f r c a t h =
    let x = carried z st e in let n = fault_frame st in let b = carried_kept z st e f r a in
    let o : supplied z st e ≡ Writeback.read_good z x n = rw (T→true (is_fault z st e) t, told (found z st.memory.chip x n) h) (as_read z x b.0 b.1 st.memory.chip c.fit (faulting_sound z st e f r c a t) n h) in
    ap (counted z) o ∙ rw (eq-eqb ((frames x).frame n).transfer READING h.0)

-- ── the events that leave the chip as it is ──
-- not a good page done; not a claim, a truncate, a deactivate; not a turn, which may claim
abbrev pub leaves : Event → Bool
leaves (Event.Design (Create s q n)) = true
leaves (Event.Design (Delete s)) = true
leaves (Event.Design (Activate s)) = true
leaves (Event.Design (Deactivate s)) = false
leaves (Event.Account e) = true
leaves (Event.Page e) = true
leaves (Event.Writeback Claim) = false
leaves (Event.Writeback (Truncate s k)) = false
leaves (Event.Writeback (Update s)) = true
leaves (Event.Writeback (PageDone f good)) = not (eqb good 1)
leaves (Event.Writeback (MapDone s good)) = true
leaves (Event.Waiting (Join s p)) = true
leaves (Event.Waiting Turn) = false

module _ (z : Sizes) (st : State) (fits : Fit z st) (r : Ruled z st) where
  -- a live record is live still
  abbrev Alive : State → Type 0
  Alive x = (q : ℕ) → (files st).state q ≡ LIVE → (files x).state q ≡ LIVE

  below : (q : ℕ) → (files st).state q ≡ LIVE → q < length st.memory.held.states
  below q e = elim (dec_lt q (length st.memory.held.states)) [ yes h ↦ h | no d ↦ absurd (omega (arith, e, get_or-eq_default st.memory.held.states 0 {n = q} (omega (arith, d)))) ]

  -- a bulk store of states where the rule holds of no live record
  stored_alive : (t : ℕ → Rule) (y : ℕ) → ((q : ℕ) → (files st).state q ≡ LIVE → ¬ (Holds (t q))) → (q : ℕ) → (files st).state q ≡ LIVE → at (store st.memory.held.states t (λ x. y)) q ≡ LIVE
  stored_alive t y n q e = elim (at_store st.memory.held.states t (λ x. y) q (below q e)) [ inl x ↦ absurd (n q e x.0) | inr x ↦ x.1 ∙ e ]

  -- the record that a fault takes was free
  fault_alive : (s p : ℕ) → Asked (questions z st (Event.Page (Fault s p))) → Alive (Pages.fault z st s p)
  unfolding Pages.fault Pages.begin_read Pages.serve_zeros Pages.take_record counted free_count
  fault_alive s p a = if_elim Alive (test (live (files st) i)) _ _ (λ t q e. e)
      (λ t. if_elim Alive (test (same ((files st).address i) 0)) _ _ (λ u q e. get_or-set_other st.memory.held.states g q NULLED 0 (λ x. omega (arith, e, ap (files st).state x ∙ free (sound (same ((files st).address i) 0) u))) ∙ e) (λ u q e. e))
    where
      i : ℕ
      i = page_of z s p

      g : ℕ
      g = pick z (files st).address (files st).state st.memory.held.pool.hand i

      free : (files st).address i ≡ 0 → (files st).state g ≡ FREE
      free e = elim a.1.1.1.1.1.0 [
        | inl x ↦ absurd (x e)
        | inr x ↦ let c = count_some z.records (λ q. eqb ((files st).state q) FREE) (rw r.counts.free at x) in
            pick_free z (files st).address (files st).state st.memory.held.pool.hand i c.0 c.1 r.counts.hand (eqb→eq _ _ c.2)
      ]

  -- a page done that is not good changes no state
  failed_alive : (f good : ℕ) → T (not (eqb good 1)) → Alive (Writeback.page_done z st f good)
  unfolding Writeback.read_failed Writeback.write_failed Writeback.free_frame counted
  failed_alive f good n = page_done_by z st Alive f good (λ t u. absurd (T_not (eqb good 1) n u)) (λ t u q e. e) (λ t u. absurd (T_not (eqb good 1) n u)) (λ t u q e. e)

  alive : (e : Event) → T (leaves e) → Asked (questions z st e) → Alive (carried z st e)
  unfolding carried counted Accounts.limit Accounts.move Designs.create Designs.delete Designs.activate Pages.read Pages.write Pages.wire Pages.unwire Writeback.update Writeback.map_done Line.join
  alive (Event.Design (Create s q n)) t a = λ y e. e
  alive (Event.Design (Delete s)) t a = λ y e. e
  alive (Event.Design (Activate s)) t a = stored_alive (λ q. same ((files st).state q) FILED and same ((files st).owner q) s) LIVE (λ q l x. omega (arith, l, x.0))
  alive (Event.Design (Deactivate s)) t a = absurd t
  alive (Event.Account (Limit q n)) t a = λ y e. e
  alive (Event.Account (Move g u m)) t a = λ y e. e
  alive (Event.Page (Fault s p)) t a = fault_alive s p a
  alive (Event.Page (Read s p w)) t a = λ y e. e
  alive (Event.Page (Write s p w x)) t a = λ y e. e
  alive (Event.Page (Wire s p)) t a = λ y e. e
  alive (Event.Page (Unwire s p)) t a = λ y e. e
  alive (Event.Writeback Claim) t a = absurd t
  alive (Event.Writeback (Truncate s k)) t a = absurd t
  alive (Event.Writeback (Update s)) t a = stored_alive (Writeback.leaving_record z st s) _ (λ q l x. elim x [ inl y ↦ (let e : y.2.0.1.0.0 ≡ q = omega (arith, y.2.0.1.0.1, y.2.1) in omega (arith, l, sym (ap (files st).state e) ∙ y.2.0.1.0.2)) | inr y ↦ omega (arith, l, y.1) ])
  alive (Event.Writeback (PageDone f good)) t a = failed_alive f good t
  alive (Event.Writeback (MapDone s good)) t a = if_elim Alive (eqb good 1) _ _ (λ u. stored_alive (Writeback.leaver z st s) FREE (λ q l x. omega (arith, l, x.0))) (λ u. stored_alive (Writeback.leaver z st s) RELEASED (λ q l x. omega (arith, l, x.0)))
  alive (Event.Waiting (Join s p)) t a = λ y e. e
  alive (Event.Waiting Turn) t a = absurd t

  -- nothing goes in but by a good page done
  unfilled : (e : Event) (k : Chip) → T (leaves e) → filled z st e k ≡ k
  unfolding filled
  unfilled (Event.Design (Create s q n)) k t = refl
  unfilled (Event.Design (Delete s)) k t = refl
  unfilled (Event.Design (Activate s)) k t = refl
  unfilled (Event.Design (Deactivate s)) k t = refl
  unfilled (Event.Account e) k t = refl
  unfilled (Event.Page e) k t = refl
  unfilled (Event.Writeback Claim) k t = refl
  unfilled (Event.Writeback (Truncate s p)) k t = refl
  unfilled (Event.Writeback (Update s)) k t = refl
  unfilled (Event.Writeback (PageDone f good)) k t = if_elim (λ (x : Chip). x ≡ k) (eqb good 1) _ k (λ u. absurd (T_not (eqb good 1) t u)) (λ u. refl)
  unfilled (Event.Writeback (MapDone s good)) k t = refl
  unfilled (Event.Waiting (Join s p)) k t = refl
  unfilled (Event.Waiting Turn) k t = refl

  -- For code: these events need not look at the chip.
  pub chip_stays : Copies z st → (e : Event) → T (leaves e) → Asked (questions z st e) → (whole z st e).memory.chip ≡ st.memory.chip
  unfolding whole supplied
  chip_stays c e t a = ap (only_live z (files (carried z st e)).state) (unfilled e st.memory.chip t)
      ∙ nothing_dropped z st.memory.chip c.fit (files (carried z st e)).state (λ b h q x. alive e t a q (c.rules.live b h q x).0)

  -- ── a good page done: what goes in, and nothing is dropped ──
  -- the record of a frame in transfer is live then, and no live one is less so
  done_alive : (f : ℕ) → Asked (questions z st (Event.Writeback (PageDone f 1))) → (q : ℕ) → (q ≡ Writeback.record_in z st f) ⊎ ((files st).state q ≡ LIVE) → (files (Writeback.page_done z st f 1)).state q ≡ LIVE
  unfolding Writeback.read_good Writeback.store_frame Writeback.write_good Writeback.free_frame counted
  done_alive f a q o = page_done_by z st (λ x. (files x).state q ≡ LIVE) f 1
      (λ t u. elim o [ inl e ↦ ap (files st).state e ∙ read_live (eqb→eq _ _ t) | inr e ↦ e ]) (λ t u. absurd u)
      (λ t u. elim (split_set st.memory.held.states (Writeback.record_in z st f) LIVE q (rw fits.memory.states exists)) [ inl x ↦ x.1 | inr x ↦ x.1 ∙ elim o [ inl e ↦ absurd (x.0 e) | inr e ↦ e ] ]) (λ t u. absurd u)
    where
      page : ((frames st).frame f).page ≡ suc (pred ((frames st).frame f).page)
      page = not_zero ((frames st).frame f).page (r.frames.busy f a.0.0 (omega (arith, moving_place (seat_at z st r f a.0.0) a.1.0)))

      held : (files st).address (pred ((frames st).frame f).page) ≡ suc (Writeback.record_in z st f)
      held = not_zero ((files st).address (pred ((frames st).frame f).page)) (r.frames.held f a.0.0 (pred ((frames st).frame f).page) page).0

      exists : Writeback.record_in z st f < z.records
      exists = r.records.address_fit_holds (pred ((frames st).frame f).page) ((r.frames.fit f a.0.0).0 (pred ((frames st).frame f).page) page) (Writeback.record_in z st f) held

      read_live : ((frames st).frame f).transfer ≡ READING → (files st).state (Writeback.record_in z st f) ≡ LIVE
      read_live e = let o = (r.frames.held f a.0.0 (pred ((frames st).frame f).page) page).1 e in ap (files st).state (ap pred o.1) ∙ o.2

  pub put_keeps : Copies z st → (f : ℕ) → Asked (questions z st (Event.Writeback (PageDone f 1)))
      → (whole z st (Event.Writeback (PageDone f 1))).memory.chip ≡ copied z (Writeback.record_in z st f) (word_at z (carried z st (Event.Writeback (PageDone f 1))).disk.records (Writeback.record_in z st f)) st.memory.chip
  unfolding whole supplied filled carried
  put_keeps c f a = let w = word_at z (Writeback.page_done z st f 1).disk.records (Writeback.record_in z st f) in
      nothing_dropped z (copied z (Writeback.record_in z st f) w st.memory.chip) (copied_fit z st.memory.chip c.fit (files st).state (at st.disk.records) c.rules fits.sizes.chip (Writeback.record_in z st f) w) _
      (λ b h q e. done_alive f a q (elim (copied_holds z st.memory.chip c.fit (files st).state (at st.disk.records) c.rules fits.sizes.chip (Writeback.record_in z st f) w b q e) [ inl n ↦ inl n | inr n ↦ inr (c.rules.live b h q n).0 ]))

-- ── places are filled in turn ──
module _ (z : Sizes) (st : State) where
  abbrev next_by : Event → List ℕ
  next_by e = (whole z st e).memory.chip.next

  -- the place after the next one, round
  abbrev pub onward : List ℕ
  onward = let n = st.memory.chip.next in set n 0 (suc (at n 0) % z.chip)

  -- A record that replaces its own copy leaves the next place; any other that goes in moves it on.
  pub own_stays : (f : ℕ) → Holds (has_copy z st.memory.chip (record_in z st f)) → next_by (Event.Writeback (PageDone f 1)) ≡ st.memory.chip.next
  unfolding whole filled copied only_live
  own_stays f h = rw (told (has_copy z st.memory.chip (record_in z st f)) h) refl

  pub new_moves : (f : ℕ) → ¬ (Holds (has_copy z st.memory.chip (record_in z st f))) → next_by (Event.Writeback (PageDone f 1)) ≡ onward
  unfolding whole filled copied place_for only_live
  new_moves f h = rw (untold (has_copy z st.memory.chip (record_in z st f)) h) refl

  -- Whatever the event, the next place stays, or such a record went in.
  pub in_turn_holds : (e : Event) → (next_by e ≡ st.memory.chip.next) ⊎ ((f : ℕ) × ((e ≡ Event.Writeback (PageDone f 1)) × ((¬ (Holds (has_copy z st.memory.chip (record_in z st f)))) × (next_by e ≡ onward))))
  unfolding whole filled copied place_for only_live
  in_turn_holds (Event.Design e) = inl refl
  in_turn_holds (Event.Account e) = inl refl
  in_turn_holds (Event.Page e) = inl refl
  in_turn_holds (Event.Writeback Claim) = inl refl
  in_turn_holds (Event.Writeback (Truncate s p)) = inl refl
  in_turn_holds (Event.Writeback (Update s)) = inl refl
  in_turn_holds (Event.Writeback (PageDone f good)) = elim (ℕ_discrete good 1) [
    | yes e ↦ elim (decided (has_copy z st.memory.chip (record_in z st f))) [ yes h ↦ inl (rw e (own_stays f h)) | no h ↦ inr (f, (ap (λ (n : ℕ). Event.Writeback (PageDone f n)) e, (h, rw e (new_moves f h)))) ]
    | no d ↦ inl (if_elim (λ (x : Chip). x.next ≡ st.memory.chip.next) (eqb good 1) _ st.memory.chip (λ u. absurd (d (eqb→eq good 1 u))) (λ u. refl))
  ]
  in_turn_holds (Event.Writeback (MapDone s good)) = inl refl
  in_turn_holds (Event.Waiting e) = inl refl

-- ── what a claim of zeros drops ──
-- the copy of one record, if it has one
abbrev pub dropped : Sizes → ℕ → Chip → Chip
dropped z r k = let b = place_of z k r in if (test (has_copy z k r)) (record { words = set_part z b (λ w. 0) k.words; copies = set k.copies b 0; next = k.next }) k

-- where all copies were of live records and one record alone stops being live, its copy alone is dropped
pub one_dropped : (z : Sizes) (k : Chip) (state state' : ℕ → ℕ) (r : ℕ) → ChipFit z k → ((b : ℕ) → b < z.chip → (q : ℕ) → at k.copies b ≡ suc q → state q ≡ LIVE)
    → ((b : ℕ) → b < z.chip → (c : ℕ) → c < z.chip → (q : ℕ) → at k.copies b ≡ suc q → at k.copies c ≡ suc q → b ≡ c)
    → ¬ (state' r ≡ LIVE) → ((q : ℕ) → ¬ (q ≡ r) → state q ≡ LIVE → state' q ≡ LIVE) → only_live z state' k ≡ dropped z r k
unfolding only_live store
one_dropped z k state state' r fit live once gone others = elim (decided (has_copy z k r)) [
  | yes h ↦ rw (told (has_copy z k r) h) (λ x. record { words = words_same h x; copies = copies_same h x; next = k.next })
  | no h ↦ if_elim (λ (y : Chip). only_live z state' k ≡ y) (test (has_copy z k r)) _ k (λ t. absurd (h (sound (has_copy z k r) t)))
      (λ t. nothing_dropped z k fit state' (λ b l q e. others q (λ d. h (b, l, e ∙ ap suc d)) (live b l q e)))
]
  where
    -- a stale place is that of r
    is_its : (b : ℕ) → Holds (stale z state' k b) → (b < z.chip) × (at k.copies b ≡ suc r)
    is_its b s =
        let l : b < z.chip = elim (dec_lt b z.chip) [ yes h ↦ h | no d ↦ absurd (omega (arith, s.1, get_or-eq_default k.copies 0 {n = b} (rw fit.copies (omega (arith, d))))) ] in
        (l, elim (ℕ_discrete s.0 r) [ yes e ↦ s.1 ∙ ap suc e | no d ↦ absurd (s.2 (others s.0 d (live b l s.0 s.1))) ])

    to : (h : Holds (has_copy z k r)) (b : ℕ) → Holds (stale z state' k b) → b ≡ place_of z k r
    to h b s = let i = is_its b s in let o = place_of_holds z k fit r h in once b i.0 (place_of z k r) o.0 r i.1 o.1

    from : (h : Holds (has_copy z k r)) (b : ℕ) → b ≡ place_of z k r → Holds (stale z state' k b)
    from h b e = let o = place_of_holds z k fit r h in (r, ap (at k.copies) e ∙ o.1, gone)

    words_same : Holds (has_copy z k r) → choose (length k.words) (λ j. stale z state' k (j / z.words)) (λ j. 0) (at k.words) ≡ set_part z (place_of z k r) (λ w. 0) k.words
    words_same h = choose_same (length k.words) (λ j. stale z state' k (j / z.words)) (λ j. same (j / z.words) (place_of z k r)) (λ j. 0) (at k.words) (λ j l s. to h (j / z.words) s) (λ j l e. from h (j / z.words) e)

    copies_same : Holds (has_copy z k r) → choose (length k.copies) (stale z state' k) (λ j. 0) (at k.copies) ≡ set k.copies (place_of z k r) 0
    copies_same h = sym (choose_ext (set k.copies (place_of z k r) 0) (length k.copies) (stale z state' k) (λ j. 0) (at k.copies) (length-set k.copies (place_of z k r) 0) (λ j l. let o = place_of_holds z k fit r h in elim (split_set k.copies (place_of z k r) 0 j (rw fit.copies o.0)) [
      | inl x ↦ inl (from h j x.0, x.1)
      | inr x ↦ inr (λ s. x.0 (to h j s), x.1)
    ]))

-- A claim drops the copy of the page that it takes, if that was modified and all zeros, and no other.
pub claim_drops : (z : Sizes) (st : State) → Copies z st → (whole z st (Event.Writeback Claim)).memory.chip
    ≡ (let f = (looking z st).taken in if (begins_write z st) st.memory.chip (if (eqb ((frames st).frame f).modified 1) (dropped z (record_in z st f) st.memory.chip) st.memory.chip))
unfolding whole supplied filled carried Writeback.claim free_frame counted
claim_drops z st c = go (begins_write z st) (eqb ((frames st).frame f).modified 1)
  where
    f : ℕ
    f = (looking z st).taken

    r : ℕ
    r = record_in z st f

    k : Chip
    k = st.memory.chip

    states : List ℕ
    states = st.memory.held.states

    same_states : only_live z (at states) k ≡ k
    same_states = nothing_dropped z k c.fit (at states) (λ b h q e. (c.rules.live b h q e).0)

    void : ¬ (at (set states r NULLED) r ≡ LIVE)
    void e = elim (dec_lt r (length states)) [
      | yes h ↦ omega (arith, e, get_or-set_same states r NULLED 0 h)
      | no d ↦ omega (arith, e, get_or-eq_default (set states r NULLED) 0 {n = r} (omega (arith, d, length-set states r NULLED)))
    ]

    nulled : only_live z (at (set states r NULLED)) k ≡ dropped z r k
    nulled = one_dropped z k (at states) (at (set states r NULLED)) r c.fit (λ b h q e. (c.rules.live b h q e).0) c.rules.once void (λ q n e. get_or-set_other states r q NULLED 0 n ∙ e)

    go : (a b : Bool) → only_live z (files (if a (on_core (λ x. on_frame f (set_transfer WRITING) x) (looked z st)) (if b (free_frame f (on_held (λ h. set_states (set h.states r NULLED) h) (looked z st))) (free_frame f (looked z st))))).state k
        ≡ if a k (if b (dropped z r k) k)
    go true b = same_states
    go false true = nulled
    go false false = same_states
