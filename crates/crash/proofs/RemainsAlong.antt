-- A page remains as it was along every legal list of acts that spare it: cuts and restarts, also cuts inside calls, among them.
use mathlib.Core.Path.{◌≡◌, refl, ap, sym, ◌∙◌, subst}
use mathlib.Core.Bool.{Bool, true, false}
use mathlib.Core.List.{List, [], ◌∷◌}
use mathlib.Core.Logic.{inl, inr}
use Prim.Native.Nat.{ℕ, zero, suc, ◌%◌, ◌<◌, pred}
use native.Mathlib.Omega.{arith}
use native.Mathlib.Decide.{ℕ_discrete}
use lib.Dec.{T, eqb}
use borrow.Author.Tests.{ne_eqb}
use Rattle.tables.specs.Base.{at, if}
use Rattle.tables.specs.Laws.{not_zero, and_left, and_right}
use Rattle.tables.specs.Rule.{Holds, same, non, ◌and◌, each, decided}
use Rattle.tables.specs.Questions.{first_no, ask, none}
use Rattle.sheets.specs.Sheet.{number_in}
use Rattle.model.specs.declared.sizes.Sizes.{Sizes}
use Rattle.model.specs.declared.event.Design.TheVariants.{Create, Delete, Activate, Deactivate}
use Rattle.model.specs.declared.event.Page.TheVariants.{Fault, Read, Write, Wire, Unwire}
use Rattle.model.specs.declared.event.Writeback.TheVariants.{Claim, Truncate, Update, PageDone, MapDone}
use Rattle.model.specs.declared.event.Waiting.TheVariants.{Join, Turn}
use Rattle.model.specs.declared.event.Event.{Event}
use Rattle.model.specs.declared.event.Event.TheVariants as Event
use Rattle.model.specs.State.{Disk, Memory, State, all_pages, slot_of}
use Rattle.model.specs.Rules.{disk_rules}
use Rattle.model.specs.Parts.{of_slot, word_at}
use Rattle.model.specs.Setters.{counted}
use Rattle.model.specs.Questions.{Turning, nobody, serves, goes_back, faults, claims, sends_away, turning}
use Rattle.model.specs.Laws.Index.{split_set, slot_below}
use Rattle.model.specs.Designs
use Rattle.model.specs.Restart.{raised, restarted}
use Rattle.model.specs.Step.{outcome, all_fit, answer, carried, result, step, restart, supplied, whole}
use Rattle.model.specs.Import.{Sheet, sheet_of, taken, has, said, imported, import_answer, import}
use Rattle.model.specs.Stores as S
use Rattle.model.specs.Stores.{Call}
use Rattle.model.specs.Ledger as L
use Rattle.model.specs.Ledger.{Ledger, note, found, spent, carried_in, placed}
use Rattle.model.specs.Demand3.{last_into, last_update}
use Rattle.model.specs.Acts.{Act, event, looking, importing, exporting, restarting, cutting, cutting_in, World, fed, fed_turn, noted, partly, wholly, fed_part, part, cut_off, act, allowed, legal, run}
use Rattle.model.specs.Carried.{spares_event, spares_call, spares, all_spare}
use Rattle.invariant.proofs.RestartedRecords.{zero_at}
use Rattle.invariant.proofs.Parts.{same_page}
use Rattle.invariant.proofs.Midst.{Inside, inside}
use Rattle.crash.proofs.Writes.{last_in, split_over}
use Rattle.crash.proofs.Link.{InMemory}
use Rattle.crash.proofs.Steps.{Good, Before, before}
use Rattle.crash.proofs.Demand3.{part_keeps, act_keeps}
use Rattle.crash.proofs.Origins.{OfText, open_text, all_open, partly_births}
use Rattle.crash.proofs.ActiveStays.{Neither, active_stays, import_stays}
use Rattle.crash.proofs.Remains.{Some, Its, Known, Only, Fits, note_known, Lively, note_live}

module _ (z : Sizes) (pos : 0 < z.pages) (i : ℕ) (within : i < all_pages z) (d : ℕ) (x : ℕ → ℕ) where
  abbrev slot : ℕ
  slot = slot_of z i

  abbrev Has : Type 0
  Has = Some z pos i d x

  abbrev Knows : Ledger → Type 0
  Knows = Known z pos i d x

  -- .. and while its design is active the page is live, unless it is of zeros
  pub record Remaining (w : World) : Type 0 where
    pub known : Knows w.ledger
    pub live : Has → T w.up → at w.state.memory.slots.active slot ≡ 1 → T (w.ledger.pages.live i)

  slot_in : slot < z.slots
  slot_in = slot_below z pos i within

  -- ── what the invariant of demand 3 gives ──
  module _ (w : World) (k : Good z w) (m : Knows w.ledger) where
    -- the design stands in no other slot
    only_slot : (t : ℕ) → t < z.slots → w.ledger.design t ≡ d → t ≡ slot
    only_slot t h e =
        let more : d ≡ suc (pred d) = not_zero d (λ n. omega (arith, n, m.elder)) in
        k.disk.designs.distinct t h slot slot_in (pred d) (e ∙ more) (m.design ∙ more)

    -- a write of the page's text has its words
    of_text : OfText z (Its z pos i d x) w.ledger
    of_text j h words e e-design e-page n l =
        let same_place : j ≡ i = same_page z.pages j i (only_slot (slot_of z j) (slot_below z pos j h) e-design) e-page in
        e n l ∙ ap (λ (a : ℕ). w.ledger.pages.text a n) same_place ∙ m.text n l

    only_open : (s : ℕ) → s < z.slots → Only z pos i d x w.ledger s
    only_open s h t e = go w.up refl
      where
        go : (b : Bool) → w.up ≡ b → s ≡ slot
        go true u = let g = (k.memory (rw u tt)).begun in only_slot s h (sym (g.design s h (g.only s h t)) ∙ e)
        go false u = absurd ((k.closed (λ v. rw u at v)).updating s h t)

    -- the disk lists it,
    pub is_listed_holds : Has → (r : ℕ) × (at w.state.disk.maps i ≡ suc r)
    is_listed_holds some = let b = k.disk.listing.listed i within (rw m.design (m.stored some)) in (b.0, b.1)

    -- and has its words
    pub is_found : (n : ℕ) → n < z.words → found z w.state.disk i n ≡ x n
    unfolding found
    is_found n h = go (at w.state.disk.maps i) refl
      where
        go : (e : ℕ) → at w.state.disk.maps i ≡ e → if (eqb e 0) 0 (word_at z w.state.disk.records (pred e) n) ≡ x n
        go zero e = elim (decided (each z.words λ c. same (x c) 0)) [ yes a ↦ sym (a n h) | no a ↦ absurd (omega (arith, (is_listed_holds a).1, e)) ]
        go (suc r) e = rw (ne_eqb (suc r) 0 (λ q. omega (arith, q))) (elim (k.disk.listing.owned i within r e) [
          | inl o ↦ o.words n h ∙ m.finished (last_into r w.ledger.finished) (last_in r w.ledger.finished o.some) (o.design ∙ m.design) o.page n h
          | inr o ↦ absurd (omega (arith, o.design, m.design, m.elder))
        ])

  -- ── one event ──
  turn_fits : (st : State) (l : Ledger) (t : Turning) → Fits z pos i d x l (fed_turn z st t)
  turn_fits st l nobody = tt
  turn_fits st l serves = tt
  turn_fits st l goes_back = tt
  turn_fits st l faults = tt
  turn_fits st l claims = tt
  turn_fits st l (sends_away n) = tt

  turn_lively : (st : State) (t : Turning) → Lively z pos i d x (fed_turn z st t)
  turn_lively st nobody = tt
  turn_lively st serves = tt
  turn_lively st goes_back = tt
  turn_lively st faults = tt
  turn_lively st claims = tt
  turn_lively st (sends_away n) = tt

  fits_event : (w : World) (e : Event) → T w.up → Good z w → Before z w.state w.ledger e → Holds (spares_event z i e) → Remaining w → Fits z pos i d x w.ledger (fed z w.state e)
  unfolding fed
  fits_event w (Event.Design (Create s q n)) u k b t m = t
  fits_event w (Event.Design (Delete s)) u k b t m = t
  fits_event w (Event.Design (Activate s)) u k b t m = tt
  fits_event w (Event.Design (Deactivate s)) u k b t m = tt
  fits_event w (Event.Account e) u k b t m = tt
  fits_event w (Event.Page (Fault s p)) u k b t m = tt
  fits_event w (Event.Page (Read s p n)) u k b t m = tt
  fits_event w (Event.Page (Write s p n v)) u k b t m = t
  fits_event w (Event.Page (Wire s p)) u k b t m = tt
  fits_event w (Event.Page (Unwire s p)) u k b t m = tt
  fits_event w (Event.Writeback Claim) u k b t m = tt
  fits_event w (Event.Writeback (Truncate s n)) u k b t m = t
  fits_event w (Event.Writeback (Update s)) u k b t m = λ some e. m.live some u (ap (at w.state.memory.slots.active) e ∙ b.asked.1.1.0)
  fits_event w (Event.Writeback (PageDone f good)) u k b t m = open_text z (Its z pos i d x) w.state w.ledger b.ruled b.tied.memory (of_text w k m.known) f b.asked.0.0
  fits_event w (Event.Writeback (MapDone s good)) u k b t m = only_open w k m.known s b.asked.0.0
  fits_event w (Event.Waiting (Join s p)) u k b t m = tt
  fits_event w (Event.Waiting Turn) u k b t m = turn_fits w.state w.ledger (turning z w.state)

  -- an event that changes no activity
  abbrev Stays : World → Event → Type 0
  Stays w e = Has → at (carried z w.state e).memory.slots.active slot ≡ 1 → T ((note z w.ledger (fed z w.state e)).pages.live i)

  quiet : (w : World) (e : Event) → T w.up → Before z w.state w.ledger e → Remaining w → Neither e → Lively z pos i d x (fed z w.state e) → Stays w e
  quiet w e u b m n t some a = note_live z pos i d x w.ledger (fed z w.state e) t m.known some
      (m.live some u (sym (ap (λ (l : List ℕ). at l slot) (active_stays z w.state e b.fit b.ruled b.asked n)) ∙ a))

  wakes : (w : World) (s : ℕ) → T w.up → Good z w → Before z w.state w.ledger (Event.Design (Activate s)) → Remaining w → Stays w (Event.Design (Activate s))
  unfolding carried counted Designs.activate fed note
  wakes w s u k b m some a =
      let now = split_over w.ledger.pages.live (λ j. of_slot z s j and non (same (at w.state.disk.maps j) 0)) true i in
      let listed = is_listed_holds w k m.known some in
      elim now [
        | inl y ↦ subst T (sym y.1) tt
        | inr y ↦ subst T (sym y.1) (elim (split_set w.state.memory.slots.active s 1 slot (omega (arith, b.fit.memory.active, b.asked.0))) [
          | inl q ↦ absurd (y.0 (q.0, λ e. omega (arith, e, listed.1)))
          | inr q ↦ m.live some u (sym q.1 ∙ a)
        ])
      ]

  rests : (w : World) (s : ℕ) → T w.up → Before z w.state w.ledger (Event.Design (Deactivate s)) → Remaining w → Stays w (Event.Design (Deactivate s))
  unfolding carried counted Designs.deactivate fed
  rests w s u b m some a = elim (split_set w.state.memory.slots.active s 0 slot (omega (arith, b.fit.memory.active, b.asked.0))) [
    | inl q ↦ absurd (omega (arith, q.1, a))
    | inr q ↦ note_live z pos i d x w.ledger (L.deactivated s) q.0 m.known some (m.live some u (sym q.1 ∙ a))
  ]

  live_event : (w : World) (e : Event) → T w.up → Good z w → Before z w.state w.ledger e → Holds (spares_event z i e) → Remaining w → Stays w e
  unfolding fed
  live_event w (Event.Design (Create s q n)) u k b t m = quiet w (Event.Design (Create s q n)) u b m tt tt
  live_event w (Event.Design (Delete s)) u k b t m = quiet w (Event.Design (Delete s)) u b m tt tt
  live_event w (Event.Design (Activate s)) u k b t m = wakes w s u k b m
  live_event w (Event.Design (Deactivate s)) u k b t m = rests w s u b m
  live_event w (Event.Account e) u k b t m = quiet w (Event.Account e) u b m tt tt
  live_event w (Event.Page (Fault s p)) u k b t m = quiet w (Event.Page (Fault s p)) u b m tt tt
  live_event w (Event.Page (Read s p n)) u k b t m = quiet w (Event.Page (Read s p n)) u b m tt tt
  live_event w (Event.Page (Write s p n v)) u k b t m = quiet w (Event.Page (Write s p n v)) u b m tt tt
  live_event w (Event.Page (Wire s p)) u k b t m = quiet w (Event.Page (Wire s p)) u b m tt tt
  live_event w (Event.Page (Unwire s p)) u k b t m = quiet w (Event.Page (Unwire s p)) u b m tt tt
  live_event w (Event.Writeback Claim) u k b t m = quiet w (Event.Writeback Claim) u b m tt tt
  live_event w (Event.Writeback (Truncate s n)) u k b t m = quiet w (Event.Writeback (Truncate s n)) u b m tt t
  live_event w (Event.Writeback (Update s)) u k b t m = quiet w (Event.Writeback (Update s)) u b m tt tt
  live_event w (Event.Writeback (PageDone f good)) u k b t m = quiet w (Event.Writeback (PageDone f good)) u b m tt tt
  live_event w (Event.Writeback (MapDone s good)) u k b t m = quiet w (Event.Writeback (MapDone s good)) u b m tt tt
  live_event w (Event.Waiting (Join s p)) u k b t m = quiet w (Event.Waiting (Join s p)) u b m tt tt
  live_event w (Event.Waiting Turn) u k b t m = quiet w (Event.Waiting Turn) u b m tt (turn_lively w.state (turning z w.state))

  -- ── acts ──
  event_remains : (w : World) (e : Event) → T w.up → Good z w → Holds (spares_event z i e) → Remaining w → Remaining (act z w (event e))
  unfolding act step whole supplied noted
  event_remains w e u k t m = go (answer z w.state e) refl
    where
      go : (n : ℕ) → answer z w.state e ≡ n → (let o = outcome n (result z w.state e) w.state (whole z w.state e) in Remaining (record { up = w.up; state = o.left; ledger = noted z o (fed z w.state e) w.ledger }))
      go zero a = let b = before z w.state w.ledger e a (record { disk = k.disk; memory = k.memory u }) in
          record { known = note_known z pos i d x w.ledger (fed z w.state e) (fits_event w e u k b t m) m.known; live = λ some v on. live_event w e u k b t m some on }
      go (suc n) a = rw (ne_eqb (suc n) 0 (λ q. omega (arith, q))) m

  -- an import elsewhere: its design is a new one
  module _ (w : World) (s v : ℕ) (h : Sheet) (k : Good z w) (t : ¬ (slot ≡ s)) (m : Knows w.ledger) where
    another : (n : ℕ) → ¬ ((partly z w.state s v h n w.ledger).births ≡ d)
    another n e = omega (arith, e, partly_births z w.state s v h w.ledger n, k.disk.designs.young slot slot_in, m.design)

    partly_known : (n : ℕ) → Knows (partly z w.state s v h n w.ledger)
    unfolding partly
    partly_known zero = note_known z pos i d x w.ledger (L.import_begun v) tt m
    partly_known (suc n) = note_known z pos i d x (partly z w.state s v h n w.ledger) (L.imported_page (h.page n) (taken z w.state s n) (h.word n)) (another n) (partly_known n)

    wholly_known : Knows (wholly z w.state s v h w.ledger)
    unfolding wholly
    wholly_known = note_known z pos i d x (partly z w.state s v h h.count w.ledger) (L.imported_slot s (has h) (said h)) (t, another h.count) (partly_known h.count)

    partly_live : (n : ℕ) → (partly z w.state s v h n w.ledger).pages ≡ w.ledger.pages
    unfolding partly note spent carried_in
    partly_live zero = refl
    partly_live (suc n) = partly_live n

    wholly_live : T (w.ledger.pages.live i) → T ((wholly z w.state s v h w.ledger).pages.live i)
    unfolding wholly note placed
    wholly_live u = subst (λ (q : L.Pages). T (q.live i)) (sym (partly_live h.count)) u

  import_remains : (w : World) (s q n : ℕ) (b : List ℕ) → Good z w → ¬ (slot ≡ s) → Remaining w → Remaining (act z w (importing s q n b))
  unfolding act import
  import_remains w s q n b k t m = go (import_answer z w.state s q n b)
    where
      go : (e : ℕ) → (let o = outcome e (number_in b) w.state (imported z w.state s q n (sheet_of b)) in
          Remaining (record { up = w.up; state = o.left; ledger = if (eqb o.answer.refusal 0) (wholly z w.state s n (sheet_of b) w.ledger) w.ledger }))
      go zero = record {
        known = wholly_known w s n (sheet_of b) k t m.known;
        live = λ some u on. wholly_live w s n (sheet_of b) k t m.known (m.live some u (sym (ap (λ (l : List ℕ). at l slot) (import_stays z w.state s q n (sheet_of b))) ∙ on));
      }
      go (suc e) = rw (ne_eqb (suc e) 0 (λ c. omega (arith, c))) m

  asleep : (disk : Disk) → at (restarted z disk).memory.slots.active slot ≡ 1 → ⊥
  unfolding restarted counted
  asleep disk on = omega (arith, on, zero_at z.slots slot)

  restart_remains : (w : World) → Good z w → Remaining w → Remaining (act z w restarting)
  unfolding act restart noted
  restart_remains w k m = go (first_no (ask 1 (all_fit z w.state) (ask 2 (disk_rules z w.state) none)))
    where
      go : (n : ℕ) → (let o = outcome n 0 w.state (restarted z (raised z w.state.disk)) in
          Remaining (record { up = if (eqb o.answer.refusal 0) true w.up; state = o.left; ledger = noted z o (L.restarted w.state.disk) w.ledger }))
      go zero = record { known = note_known z pos i d x w.ledger (L.restarted w.state.disk) (is_found w k m.known) m.known; live = λ some u on. absurd (asleep (raised z w.state.disk) on) }
      go (suc n) = rw (ne_eqb (suc n) 0 (λ c. omega (arith, c))) m

  cut_remains : (w : World) (writes updates : ℕ → Bool) (junk : Memory) → Good z w → Knows w.ledger → Remaining (cut_off z w writes updates junk)
  cut_remains w writes updates junk k m =
      record { known = note_known z pos i d x w.ledger (L.cut writes updates) (all_open z (Its z pos i d x) w k (of_text w k m), only_open w k m) m; live = λ some u on. absurd u }

  part_known : (w : World) (c : Call) (n : ℕ) → Good z w → Holds (spares_call z i c) → Knows w.ledger → Knows (part z w c n).ledger
  unfolding part fed_part
  part_known w (S.event e) n k t m = m
  part_known w (S.importing s q v b) zero k t m = m
  part_known w (S.importing s q v b) (suc n) k t m = partly_known w s v (sheet_of b) k t m n

  act_remains : (w : World) (a : Act) → T (allowed z w a) → Good z w → Holds (spares z i a) → Remaining w → Remaining (act z w a)
  unfolding allowed act
  act_remains w (event e) u k t m = event_remains w e u k t m
  act_remains w (looking s p) u k t m = m
  act_remains w (importing s q n b) u k t m = import_remains w s q n b k t m
  act_remains w (exporting s buffer) u k t m = m
  act_remains w restarting u k t m = restart_remains w k m
  act_remains w (cutting writes updates junk) u k t m = cut_remains w writes updates junk k m.known
  act_remains w (cutting_in c n writes updates junk) u k t m =
      cut_remains (part z w c n) writes updates junk (part_keeps z w c n junk (inside z w c n writes updates junk u) k) (part_known w c n k t m.known)

  pub run_remains : (acts : List Act) (w : World) → T (legal z w acts) → Good z w → Holds (all_spare z i acts) → Remaining w → Remaining (run z w acts)
  unfolding run legal
  run_remains [] w l k t m = m
  run_remains (a ∷ acts) w l k t m =
      let may = and_left (allowed z w a) (legal z (act z w a) acts) l in
      run_remains acts (act z w a) (and_right (allowed z w a) (legal z (act z w a) acts) l) (act_keeps z w a may k) t.1 (act_remains w a may k t.0 m)
