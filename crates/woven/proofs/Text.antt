-- The ledger's text is `woven`: after every list of acts, once restarted.
use mathlib.Core.Path.{◌≡◌, refl, ap, sym, ◌∙◌}
use mathlib.Core.Bool.{Bool, true, false, ◌&&◌}
use mathlib.Core.List.{List, [], ◌∷◌}
use Prim.Native.Nat.{ℕ, zero, suc, ◌%◌}
use native.Mathlib.Decide.{ℕ_discrete}
use lib.Dec.{T, eqb}
use Rattle.tables.specs.Base.{if}
use Rattle.tables.specs.Laws.{if_yes, if_no}
use Rattle.tables.specs.Rule.{test}
use Rattle.model.specs.declared.sizes.Sizes.{Sizes}
use Rattle.model.specs.declared.event.Design.TheVariants.{Create, Delete, Activate, Deactivate}
use Rattle.model.specs.declared.event.Page.TheVariants.{Fault, Read, Write, Wire, Unwire}
use Rattle.model.specs.declared.event.Writeback.TheVariants.{Claim, Truncate, Update, PageDone, MapDone}
use Rattle.model.specs.declared.event.Waiting.TheVariants.{Join, Turn}
use Rattle.model.specs.declared.event.Event.{Event}
use Rattle.model.specs.declared.event.Event.TheVariants as Event
use Rattle.model.specs.State.{State, page_of}
use Rattle.model.specs.Parts.{of_slot, from_page}
use Rattle.model.specs.Questions.{Turning, nobody, serves, goes_back, faults, claims, sends_away, turning}
use Rattle.model.specs.Step.{step, restart}
use Rattle.model.specs.Import.{Sheet, sheet_of, has, said, import}
use Rattle.model.specs.Ledger.{Ledger, Fed, nothing, restarted, created, deleted, activated, deactivated, faulted, wrote, claimed, truncated, began, page_end, map_end, import_begun, imported_page, imported_slot, cut}
use Rattle.model.specs.Ledger.{note, put, over, lose, voided, spent, carried_in, placed, finish_write, finish_update, strike_write, strike_update}
use Rattle.model.specs.Acts.{Act, event, looking, importing, exporting, restarting, cutting, cutting_in, World, fed, fed_turn, noted, partly, wholly, act}
use Rattle.woven.specs.Woven.{weaves, overlaid, woven, Since, heard, act_by, run_by, along}

-- ── one feed ──
-- what an event and an import can feed: no restart and no cut
abbrev spoken : Fed → Bool
spoken nothing = true
spoken (restarted d) = false
spoken (created s n) = true
spoken (deleted s) = true
spoken (activated s d) = true
spoken (deactivated s) = true
spoken (faulted s p f) = true
spoken (wrote s p w x) = true
spoken (claimed f r) = true
spoken (truncated s k) = true
spoken (began s) = true
spoken (page_end f good) = true
spoken (map_end s good) = true
spoken (import_begun n) = true
spoken (imported_page p r words) = true
spoken (imported_slot s has said) = true
spoken (cut writes updates) = false

turn_spoken : (z : Sizes) (st : State) (t : Turning) → T (spoken (fed_turn z st t))
turn_spoken z st nobody = tt
turn_spoken z st serves = tt
turn_spoken z st goes_back = tt
turn_spoken z st faults = tt
turn_spoken z st claims = tt
turn_spoken z st (sends_away n) = tt

fed_spoken : (z : Sizes) (st : State) (e : Event) → T (spoken (fed z st e))
unfolding fed
fed_spoken z st (Event.Design (Create s q n)) = tt
fed_spoken z st (Event.Design (Delete s)) = tt
fed_spoken z st (Event.Design (Activate s)) = tt
fed_spoken z st (Event.Design (Deactivate s)) = tt
fed_spoken z st (Event.Account e) = tt
fed_spoken z st (Event.Page (Fault s p)) = tt
fed_spoken z st (Event.Page (Read s p w)) = tt
fed_spoken z st (Event.Page (Write s p w x)) = tt
fed_spoken z st (Event.Page (Wire s p)) = tt
fed_spoken z st (Event.Page (Unwire s p)) = tt
fed_spoken z st (Event.Writeback Claim) = tt
fed_spoken z st (Event.Writeback (Truncate s k)) = tt
fed_spoken z st (Event.Writeback (Update s)) = tt
fed_spoken z st (Event.Writeback (PageDone f good)) = tt
fed_spoken z st (Event.Writeback (MapDone s good)) = tt
fed_spoken z st (Event.Waiting (Join s p)) = tt
fed_spoken z st (Event.Waiting Turn) = turn_spoken z st (turning z st)

-- a choice between two tables, at a place
at_choice : (b : Bool) (f g : ℕ → ℕ) (n : ℕ) → (if b f g) n ≡ if b (f n) (g n)
at_choice true f g n = refl
at_choice false f g n = refl

-- either of two ledgers with one text
either : (b : Bool) (x y l : Ledger) (i n : ℕ) → x.pages.text i n ≡ l.pages.text i n → y.pages.text i n ≡ l.pages.text i n → (if b x y).pages.text i n ≡ l.pages.text i n
either true x y l i n p q = p
either false x y l i n p q = q

write_text : (f : ℕ) (l : Ledger) (i n : ℕ) → (finish_write f l).pages.text i n ≡ l.pages.text i n
unfolding finish_write
write_text f l i n = either (l.pending.writing f) _ l l i n refl refl

update_text : (s : ℕ) (l : Ledger) (i n : ℕ) → (finish_update s l).pages.text i n ≡ l.pages.text i n
unfolding finish_update
update_text s l i n = either (l.pending.updating s) _ l l i n refl refl

module _ (z : Sizes) where
  -- what is fed changes the text as it is woven
  note_text : (l : Ledger) (f : Fed) (i n : ℕ) → T (spoken f) → (note z l f).pages.text i n ≡ overlaid z f i n (l.pages.text i n)
  unfolding note overlaid over put strike_write strike_update spent carried_in placed
  note_text l nothing i n t = refl
  note_text l (restarted d) i n t = absurd t
  note_text l (created s m) i n t = at_choice (test (of_slot z s i)) (λ w. 0) (l.pages.text i) n
  note_text l (deleted s) i n t = refl
  note_text l (activated s d) i n t = refl
  note_text l (deactivated s) i n t = refl
  note_text l (faulted s p f) i n t = refl
  note_text l (wrote s p w x) i n t = elim (ℕ_discrete i (page_of z s p)) [
    | yes e ↦ ap (λ (g : ℕ → ℕ). g n) (if_yes i (page_of z s p) (put (l.pages.text (page_of z s p)) w x) (l.pages.text i) e)
        ∙ ap (λ (j : ℕ). if (eqb n w) x (l.pages.text j n)) (sym e) ∙ sym (if_yes i (page_of z s p) (if (eqb n w) x (l.pages.text i n)) (l.pages.text i n) e)
    | no d ↦ ap (λ (g : ℕ → ℕ). g n) (if_no i (page_of z s p) (put (l.pages.text (page_of z s p)) w x) (l.pages.text i) d)
        ∙ sym (if_no i (page_of z s p) (if (eqb n w) x (l.pages.text i n)) (l.pages.text i n) d)
  ]
  note_text l (claimed f zero) i n t = either (voided z l (l.pending.noted f).place) _ l l i n refl refl
  note_text l (claimed f (suc r)) i n t = refl
  note_text l (truncated s k) i n t = at_choice (test (from_page z s k i)) (λ w. 0) (l.pages.text i) n
  note_text l (began s) i n t = refl
  note_text l (page_end f good) i n t = either (eqb good 1) (finish_write f l) (strike_write f l) l i n (write_text f l i n) refl
  note_text l (map_end s good) i n t = either (eqb good 1) (finish_update s l) (strike_update s l) l i n (update_text s l i n) refl
  note_text l (import_begun m) i n t = refl
  note_text l (imported_page p r words) i n t = refl
  note_text l (imported_slot s has said) i n t = at_choice (test (of_slot z s i)) (said (i % z.pages)) (l.pages.text i) n
  note_text l (cut writes updates) i n t = absurd t

  -- what does not weave leaves every word
  plain_over : (f : Fed) (i n x : ℕ) → ¬ (T (weaves f)) → overlaid z f i n x ≡ x
  unfolding overlaid
  plain_over nothing i n x d = refl
  plain_over (restarted e) i n x d = refl
  plain_over (created s m) i n x d = absurd (d tt)
  plain_over (deleted s) i n x d = refl
  plain_over (activated s e) i n x d = refl
  plain_over (deactivated s) i n x d = refl
  plain_over (faulted s p f) i n x d = refl
  plain_over (wrote s p w v) i n x d = absurd (d tt)
  plain_over (claimed f r) i n x d = refl
  plain_over (truncated s k) i n x d = absurd (d tt)
  plain_over (began s) i n x d = refl
  plain_over (page_end f good) i n x d = refl
  plain_over (map_end s good) i n x d = refl
  plain_over (import_begun m) i n x d = refl
  plain_over (imported_page p r words) i n x d = refl
  plain_over (imported_slot s has said) i n x d = absurd (d tt)
  plain_over (cut writes updates) i n x d = refl

  -- ── one act ──
  -- the text is woven
  abbrev pub Told : World → Since → Type 0
  Told w c = T w.up → (i n : ℕ) → w.ledger.pages.text i n ≡ woven z c.disk c.list i n

  put_down : (c : Since) (f : Fed) (l : Ledger) (b : Bool) → T (spoken f) → ((i n : ℕ) → l.pages.text i n ≡ woven z c.disk c.list i n)
      → (i n : ℕ) → (let c' : Since = if (b && weaves f) (record { disk = c.disk; list = f ∷ c.list }) c in (if b (note z l f) l).pages.text i n ≡ woven z c'.disk c'.list i n)
  unfolding woven
  put_down c f l false t e i n = e i n
  put_down c f l true t e i n = go (weaves f) refl
    where
      go : (b : Bool) → weaves f ≡ b → (let c' : Since = if b (record { disk = c.disk; list = f ∷ c.list }) c in (note z l f).pages.text i n ≡ woven z c'.disk c'.list i n)
      go true p = note_text l f i n t ∙ ap (overlaid z f i n) (e i n)
      go false p = note_text l f i n t ∙ plain_over f i n (l.pages.text i n) (λ u. rw p at u) ∙ e i n

  -- the stores of an import before its last leave the text
  partly_text : (st : State) (s m : ℕ) (h : Sheet) (k : ℕ) (l : Ledger) (i n : ℕ) → (partly z st s m h k l).pages.text i n ≡ l.pages.text i n
  unfolding partly note spent carried_in
  partly_text st s m h zero l i n = refl
  partly_text st s m h (suc k) l i n = partly_text st s m h k l i n

  wholly_text : (st : State) (s m : ℕ) (h : Sheet) (l : Ledger) (i n : ℕ) → (wholly z st s m h l).pages.text i n ≡ overlaid z (imported_slot s (has h) (said h)) i n (l.pages.text i n)
  unfolding wholly
  wholly_text st s m h l i n = note_text (partly z st s m h h.count l) (imported_slot s (has h) (said h)) i n tt ∙ ap (overlaid z (imported_slot s (has h) (said h)) i n) (partly_text st s m h h.count l i n)

  module _ (tidy : State → State) where
    act_told : (w : World) (c : Since) (a : Act) → Told w c → Told (act_by z tidy w a) (heard z w c a)
    unfolding act_by act heard noted note woven lose
    act_told w c (event e) k = λ u i n. put_down c (fed z w.state e) w.ledger (eqb (step z w.state e).answer.refusal 0) (fed_spoken z w.state e) (k u) i n
    act_told w c (looking s p) k = k
    act_told w c (importing s q m b) k = go (eqb (import z w.state s q m b).answer.refusal 0)
      where
        go : (x : Bool) → T w.up → (i n : ℕ)
            → (let c' : Since = if x (record { disk = c.disk; list = imported_slot s (has (sheet_of b)) (said (sheet_of b)) ∷ c.list }) c in
            (if x (wholly z w.state s m (sheet_of b) w.ledger) w.ledger).pages.text i n ≡ woven z c'.disk c'.list i n)
        go true u i n = wholly_text w.state s m (sheet_of b) w.ledger i n ∙ ap (overlaid z (imported_slot s (has (sheet_of b)) (said (sheet_of b))) i n) (k u i n)
        go false u i n = k u i n
    act_told w c (exporting s buffer) k = k
    act_told w c restarting k = go (eqb (restart z w.state).answer.refusal 0)
      where
        go : (b : Bool) → T (if b true w.up) → (i n : ℕ)
            → (let c' : Since = if b (record { disk = w.state.disk; list = [] }) c in (if b (note z w.ledger (restarted w.state.disk)) w.ledger).pages.text i n ≡ woven z c'.disk c'.list i n)
        go true u i n = refl
        go false u i n = k u i n
    act_told w c (cutting writes updates junk) k = λ u. absurd u
    act_told w c (cutting_in call j writes updates junk) k = λ u. absurd u

    -- after every list of acts
    pub told : (acts : List Act) (w : World) (c : Since) → Told w c → Told (run_by z tidy w acts) (along z tidy w c acts)
    unfolding run_by along
    told [] w c k = k
    told (a ∷ acts) w c k = told acts (act_by z tidy w a) (heard z w c a) (act_told w c a k)
