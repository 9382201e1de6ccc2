-- No finished update is of a design that is not born yet, over every legal list of acts.
use mathlib.Core.Path.{◌≡◌, refl, ap, sym, ◌∙◌, subst}
use mathlib.Core.Bool.{Bool, true, false}
use mathlib.Core.List.{List, [], ◌∷◌}
use Prim.Native.Nat.{ℕ, zero, suc, ◌<◌, ◌≤◌}
use native.Mathlib.Omega.{arith}
use lib.Dec.{T, eqb}
use borrow.Author.Tests.{ne_eqb}
use Rattle.tables.specs.Base.{if}
use Rattle.tables.specs.Laws.{if_elim, and_left, and_right}
use Rattle.model.specs.declared.sizes.Sizes.{Sizes}
use Rattle.model.specs.declared.event.Design.TheVariants.{Create, Delete, Activate, Deactivate}
use Rattle.model.specs.declared.event.Page.TheVariants.{Fault, Read, Write, Wire, Unwire}
use Rattle.model.specs.declared.event.Writeback.TheVariants.{Claim, Truncate, Update, PageDone, MapDone}
use Rattle.model.specs.declared.event.Waiting.TheVariants.{Join, Turn}
use Rattle.model.specs.declared.event.Event.{Event}
use Rattle.model.specs.declared.event.Event.TheVariants as Event
use Rattle.model.specs.State.{State}
use Rattle.model.specs.Questions.{Turning, nobody, serves, goes_back, faults, claims, sends_away, turning}
use Rattle.model.specs.Step.{outcome, answer, carried, result, step, restart, supplied, whole}
use Rattle.model.specs.Import.{Sheet, sheet_of, has, said, import}
use Rattle.model.specs.Stores as S
use Rattle.model.specs.Stores.{Call}
use Rattle.model.specs.Ledger as L
use Rattle.model.specs.Ledger.{Ledger, Fed, note, lose, finish_update, finish_writes, finish_updates, finish_write, strike_write, strike_update, spent, carried_in, placed, voided}
use Rattle.model.specs.Acts.{Act, event, looking, importing, exporting, restarting, cutting, cutting_in, World, fed, fed_turn, noted, partly, wholly, fed_part, part, act, allowed, legal, run}
use Rattle.crash.proofs.Steps as Steps
use Rattle.crash.proofs.Steps.{Good, before}
use Rattle.crash.proofs.Demand3.{act_keeps}
use Rattle.crash.proofs.Origins.{beside_finish, beside_all, aside_all, partly_births, partly_pending}

-- something holds of each update of a list
abbrev pub AllOf : (L.Update → Type 0) → List L.Update → Type 0
AllOf P [] = Unit {0}
AllOf P (x ∷ xs) = P x × AllOf P xs

all_weaker : (P Q : L.Update → Type 0) → ((u : L.Update) → P u → Q u) → (xs : List L.Update) → AllOf P xs → AllOf Q xs
all_weaker P Q f [] a = tt
all_weaker P Q f (x ∷ xs) a = (f x a.0, all_weaker P Q f xs a.1)

abbrev pub BornUpdates : Ledger → Type 0
BornUpdates l = AllOf (λ u. u.design ≤ l.births) l.stored

-- an open update of the slot is of a design that is born
abbrev Open : Ledger → ℕ → Type 0
Open l s = T (l.pending.updating s) → (l.pending.update s).design ≤ l.births

finish_born : (s : ℕ) (l : Ledger) → Open l s → BornUpdates l → BornUpdates (finish_update s l)
unfolding finish_update
finish_born s l o b = if_elim BornUpdates (l.pending.updating s) _ l (λ t. (o t, b)) (λ t. b)

finishes_born : (n : ℕ) (lands : ℕ → Bool) (l : Ledger) → ((s : ℕ) → s < n → Open l s) → BornUpdates l → BornUpdates (finish_updates n lands l)
unfolding finish_updates
finishes_born zero lands l o b = b
finishes_born (suc s) lands l o b =
    let rest = finishes_born s lands l (λ t h. o t (omega arith)) b in
    let a = aside_all s lands l in
    let pending : Open (finish_updates s lands l) s = λ u. omega (arith, o s (omega arith) (a.updating s u), ap (λ (f : ℕ → L.Update). (f s).design) a.update, a.births) in
    if_elim BornUpdates (lands s) _ _ (λ t. finish_born s (finish_updates s lands l) pending rest) (λ t. rest)

-- what is needed of what is fed
abbrev Ready : Sizes → Ledger → Fed → Type 0
Ready z l (L.map_end s good) = Open l s
Ready z l (L.cut writes updates) = (s : ℕ) → s < z.slots → Open l s
Ready z l L.nothing = Unit {0}
Ready z l (L.restarted d) = Unit {0}
Ready z l (L.created s n) = Unit {0}
Ready z l (L.deleted s) = Unit {0}
Ready z l (L.activated s d) = Unit {0}
Ready z l (L.deactivated s) = Unit {0}
Ready z l (L.faulted s p f) = Unit {0}
Ready z l (L.wrote s p w x) = Unit {0}
Ready z l (L.claimed f n) = Unit {0}
Ready z l (L.truncated s k) = Unit {0}
Ready z l (L.began s) = Unit {0}
Ready z l (L.page_end f good) = Unit {0}
Ready z l (L.import_begun n) = Unit {0}
Ready z l (L.imported_page p r words) = Unit {0}
Ready z l (L.imported_slot s h t) = Unit {0}

-- one birth more
older : (l : Ledger) → BornUpdates l → AllOf (λ u. u.design ≤ suc l.births) l.stored
older l b = all_weaker (λ u. u.design ≤ l.births) (λ u. u.design ≤ suc l.births) (λ u h. omega (arith, h)) l.stored b

note_born : (z : Sizes) (l : Ledger) (f : Fed) → Ready z l f → BornUpdates l → BornUpdates (note z l f)
unfolding note lose strike_write strike_update spent carried_in placed
note_born z l L.nothing r b = b
note_born z l (L.restarted d) r b = b
note_born z l (L.created s n) r b = older l b
note_born z l (L.deleted s) r b = b
note_born z l (L.activated s d) r b = b
note_born z l (L.deactivated s) r b = b
note_born z l (L.faulted s p f) r b = b
note_born z l (L.wrote s p w x) r b = b
note_born z l (L.claimed f zero) r b = if_elim BornUpdates (voided z l (l.pending.noted f).place) _ l (λ u. b) (λ u. b)
note_born z l (L.claimed f (suc n)) r b = b
note_born z l (L.truncated s k) r b = b
note_born z l (L.began s) r b = b
note_born z l (L.page_end f good) r b = if_elim BornUpdates (eqb good 1) _ _ (λ u. written f l b) (λ u. b)
  where
    written : (f : ℕ) (l : Ledger) → BornUpdates l → BornUpdates (finish_write f l)
    written f l b = unfold finish_write in if_elim BornUpdates (l.pending.writing f) _ l (λ t. b) (λ t. b)
note_born z l (L.map_end s good) r b = if_elim BornUpdates (eqb good 1) _ _ (λ u. finish_born s l r b) (λ u. b)
note_born z l (L.import_begun n) r b = older l b
note_born z l (L.imported_page p n words) r b = b
note_born z l (L.imported_slot s h t) r b = (omega arith, b)
note_born z l (L.cut writes updates) r b =
    let l₁ = finish_writes z.frames writes l in
    let c = beside_all z.frames writes l in
    let same : BornUpdates l₁ = subst (λ (n : ℕ). AllOf (λ u. u.design ≤ n) l₁.stored) (sym c.births) (subst (AllOf (λ u. u.design ≤ l.births)) (sym c.stored) b) in
    let pending : (s : ℕ) → s < z.slots → Open l₁ s = λ s h t.
    omega (arith, r s h (subst (λ (f : ℕ → Bool). T (f s)) c.updating t), ap (λ (f : ℕ → L.Update). (f s).design) c.update, c.births) in
    finishes_born z.slots updates l₁ pending same

-- ── acts ──
module _ (z : Sizes) where
  -- an open update is its slot's
  all_open : (w : World) → Good z w → (s : ℕ) → s < z.slots → Open w.ledger s
  all_open w k s h = go w.up refl
    where
      go : (b : Bool) → w.up ≡ b → Open w.ledger s
      go true e = let u : T w.up = rw e tt in λ t. let g = (k.memory u).begun in omega (arith, g.design s h (g.only s h t), k.disk.designs.young s h)
      go false e = λ t. absurd ((k.closed (λ u. rw e at u)).updating s h t)

  turn_ready : (st : State) (l : Ledger) (t : Turning) → Ready z l (fed_turn z st t)
  turn_ready st l nobody = tt
  turn_ready st l serves = tt
  turn_ready st l goes_back = tt
  turn_ready st l faults = tt
  turn_ready st l claims = tt
  turn_ready st l (sends_away n) = tt

  fed_ready : (w : World) (e : Event) → Good z w → Steps.Before z w.state w.ledger e → Ready z w.ledger (fed z w.state e)
  unfolding fed
  fed_ready w (Event.Design (Create s q n)) k b = tt
  fed_ready w (Event.Design (Delete s)) k b = tt
  fed_ready w (Event.Design (Activate s)) k b = tt
  fed_ready w (Event.Design (Deactivate s)) k b = tt
  fed_ready w (Event.Account e) k b = tt
  fed_ready w (Event.Page (Fault s p)) k b = tt
  fed_ready w (Event.Page (Read s p n)) k b = tt
  fed_ready w (Event.Page (Write s p n x)) k b = tt
  fed_ready w (Event.Page (Wire s p)) k b = tt
  fed_ready w (Event.Page (Unwire s p)) k b = tt
  fed_ready w (Event.Writeback Claim) k b = tt
  fed_ready w (Event.Writeback (Truncate s n)) k b = tt
  fed_ready w (Event.Writeback (Update s)) k b = tt
  fed_ready w (Event.Writeback (PageDone f good)) k b = tt
  fed_ready w (Event.Writeback (MapDone s good)) k b = all_open w k s b.asked.0.0
  fed_ready w (Event.Waiting (Join s p)) k b = tt
  fed_ready w (Event.Waiting Turn) k b = turn_ready w.state w.ledger (turning z w.state)

  event_born : (w : World) (e : Event) → T w.up → Good z w → BornUpdates w.ledger → BornUpdates (act z w (event e)).ledger
  unfolding act step whole supplied noted
  event_born w e u k b = go (answer z w.state e) refl
    where
      go : (n : ℕ) → answer z w.state e ≡ n → BornUpdates (noted z (outcome n (result z w.state e) w.state (whole z w.state e)) (fed z w.state e) w.ledger)
      go zero a = note_born z w.ledger (fed z w.state e) (fed_ready w e k (before z w.state w.ledger e a (record { disk = k.disk; memory = k.memory u }))) b
      go (suc n) a = rw (ne_eqb (suc n) 0 (λ x. omega (arith, x))) b

  partly_born : (st : State) (s n : ℕ) (h : Sheet) (m : ℕ) (l : Ledger) → BornUpdates l → BornUpdates (partly z st s n h m l)
  unfolding partly
  partly_born st s n h zero l b = note_born z l (L.import_begun n) tt b
  partly_born st s n h (suc m) l b = note_born z (partly z st s n h m l) (L.imported_page (h.page m) _ (h.word m)) tt (partly_born st s n h m l b)

  wholly_born : (st : State) (s n : ℕ) (h : Sheet) (l : Ledger) → BornUpdates l → BornUpdates (wholly z st s n h l)
  unfolding wholly
  wholly_born st s n h l b = note_born z (partly z st s n h h.count l) (L.imported_slot s (has h) (said h)) tt (partly_born st s n h h.count l b)

  part_born : (st : State) (c : Call) (n : ℕ) (l : Ledger) → BornUpdates l → BornUpdates (fed_part z st c n l)
  unfolding fed_part
  part_born st (S.event e) n l b = b
  part_born st (S.importing s q m b) zero l a = a
  part_born st (S.importing s q m b) (suc n) l a = partly_born st s m (sheet_of b) n l a

  -- what is open in the midst of a call was open before it, of a design that was born
  part_open : (w : World) (c : Call) (n : ℕ) → Good z w → (s : ℕ) → s < z.slots → Open (fed_part z w.state c n w.ledger) s
  unfolding fed_part
  part_open w (S.event e) n k s h = all_open w k s h
  part_open w (S.importing t q m b) zero k s h = all_open w k s h
  part_open w (S.importing t q m b) (suc n) k s h = λ u.
      let p = partly_pending z w.state t m (sheet_of b) w.ledger n in
      omega (arith, all_open w k s h (subst (λ (x : L.Pending). T (x.updating s)) p u), ap (λ (x : L.Pending). (x.update s).design) p, partly_births z w.state t m (sheet_of b) w.ledger n)

  act_updates : (w : World) (a : Act) → T (allowed z w a) → Good z w → BornUpdates w.ledger → BornUpdates (act z w a).ledger
  unfolding allowed act part noted
  act_updates w (event e) t k b = event_born w e t k b
  act_updates w (looking s p) t k b = b
  act_updates w (importing s q n x) t k b = if_elim BornUpdates (eqb (import z w.state s q n x).answer.refusal 0) _ w.ledger (λ u. wholly_born w.state s n (sheet_of x) w.ledger b) (λ u. b)
  act_updates w (exporting s buffer) t k b = b
  act_updates w restarting t k b = if_elim BornUpdates (eqb (restart z w.state).answer.refusal 0) _ w.ledger (λ u. note_born z w.ledger (L.restarted w.state.disk) tt b) (λ u. b)
  act_updates w (cutting writes updates junk) t k b = note_born z w.ledger (L.cut writes updates) (all_open w k) b
  act_updates w (cutting_in c n writes updates junk) t k b = note_born z (fed_part z w.state c n w.ledger) (L.cut writes updates) (part_open w c n k) (part_born w.state c n w.ledger b)

  pub run_updates : (acts : List Act) (w : World) → T (legal z w acts) → Good z w → BornUpdates w.ledger → BornUpdates (run z w acts).ledger
  unfolding run legal
  run_updates [] w t k b = b
  run_updates (a ∷ acts) w t k b =
      let may = and_left (allowed z w a) (legal z (act z w a) acts) t in
      run_updates acts (act z w a) (and_right (allowed z w a) (legal z (act z w a) acts) t) (act_keeps z w a may k) (act_updates w a may k b)
