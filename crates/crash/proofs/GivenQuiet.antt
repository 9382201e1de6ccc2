-- One number, one design: what leaves the numbers alone, in the ledger and on the disk.
use mathlib.Core.Path.{◌≡◌, refl, sym, ◌∙◌, subst}
use mathlib.Core.Bool.{Bool, true, false}
use mathlib.Core.List.{[], ◌∷◌}
use Prim.Native.Nat.{ℕ, zero, suc}
use lib.Dec.{eqb}
use Rattle.tables.specs.Base.{if}
use Rattle.tables.specs.Laws.{if_elim}
use Rattle.model.specs.declared.sizes.Sizes.{Sizes}
use Rattle.model.specs.declared.event.Design.TheVariants.{Create, Delete, Activate, Deactivate}
use Rattle.model.specs.declared.event.Account.TheVariants.{Limit, Move}
use Rattle.model.specs.declared.event.Page.TheVariants.{Fault, Read, Write, Wire, Unwire}
use Rattle.model.specs.declared.event.Writeback.TheVariants.{Claim, Truncate, Update, PageDone, MapDone}
use Rattle.model.specs.declared.event.Waiting.TheVariants.{Join, Turn}
use Rattle.model.specs.declared.event.Event.{Event}
use Rattle.model.specs.declared.event.Event.TheVariants as Event
use Rattle.model.specs.State.{Disk, State, frames, READING}
use Rattle.model.specs.Questions.{Turning, nobody, serves, goes_back, faults, claims, sends_away, turning}
use Rattle.model.specs.Writeback
use Rattle.model.specs.Step.{answer, step}
use Rattle.model.specs.Stores as S
use Rattle.model.specs.Ledger as L
use Rattle.model.specs.Ledger.{Ledger, Fed, note, lose, finish_writes, strike_write, strike_update, spent, carried_in, placed, voided}
use Rattle.model.specs.Acts.{event, World, fed, fed_turn, part}
use Rattle.invariant.proofs.Stores.{AfterEach, after_first, stores_whole}
use Rattle.crash.proofs.Origins.{beside_finish, beside_all, aside_finish, aside_all}
use Rattle.crash.proofs.Given.{view}

-- ── acts that change nothing of the view ──
-- the ledger's part of it
pub record SameNames (l l' : Ledger) : Type 0 where
  pub pack : l'.pack ≡ l.pack
  pub births : l'.births ≡ l.births
  pub design : l'.design ≡ l.design
  pub number : l'.number ≡ l.number

pub names_same : (l : Ledger) → SameNames l l
names_same l = record { pack = refl; births = refl; design = refl; number = refl }

-- all that is fed but births, a slot taken and a slot emptied
abbrev pub Quiet : Fed → Type 0
Quiet L.nothing = Unit {0}
Quiet (L.restarted d) = Unit {0}
Quiet (L.created s n) = ⊥
Quiet (L.deleted s) = ⊥
Quiet (L.activated s d) = Unit {0}
Quiet (L.deactivated s) = Unit {0}
Quiet (L.faulted s p f) = Unit {0}
Quiet (L.wrote s p w x) = Unit {0}
Quiet (L.claimed f n) = Unit {0}
Quiet (L.truncated s k) = Unit {0}
Quiet (L.began s) = Unit {0}
Quiet (L.page_end f good) = Unit {0}
Quiet (L.map_end s good) = Unit {0}
Quiet (L.import_begun n) = ⊥
Quiet (L.imported_page p r words) = Unit {0}
Quiet (L.imported_slot s h t) = ⊥
Quiet (L.cut writes updates) = Unit {0}

pub note_names : (z : Sizes) (l : Ledger) (f : Fed) → Quiet f → SameNames l (note z l f)
unfolding note lose strike_write strike_update spent carried_in placed
note_names z l L.nothing q = names_same l
note_names z l (L.restarted d) q = record { pack = refl; births = refl; design = refl; number = refl }
note_names z l (L.created s n) q = absurd q
note_names z l (L.deleted s) q = absurd q
note_names z l (L.activated s d) q = record { pack = refl; births = refl; design = refl; number = refl }
note_names z l (L.deactivated s) q = record { pack = refl; births = refl; design = refl; number = refl }
note_names z l (L.faulted s p f) q = record { pack = refl; births = refl; design = refl; number = refl }
note_names z l (L.wrote s p w x) q = record { pack = refl; births = refl; design = refl; number = refl }
note_names z l (L.claimed f zero) q = if_elim (SameNames l) (voided z l (l.pending.noted f).place) _ l (λ u. record { pack = refl; births = refl; design = refl; number = refl }) (λ u. names_same l)
note_names z l (L.claimed f (suc r)) q = record { pack = refl; births = refl; design = refl; number = refl }
note_names z l (L.truncated s k) q = record { pack = refl; births = refl; design = refl; number = refl }
note_names z l (L.began s) q = record { pack = refl; births = refl; design = refl; number = refl }
note_names z l (L.page_end f good) q = if_elim (SameNames l) (eqb good 1) _ _
    (λ u. let b = beside_finish f l in record { pack = b.pack; births = b.births; design = b.design; number = b.number }) (λ u. record { pack = refl; births = refl; design = refl; number = refl })
note_names z l (L.map_end s good) q = if_elim (SameNames l) (eqb good 1) _ _
    (λ u. let b = aside_finish s l in record { pack = b.pack; births = b.births; design = b.design; number = b.number }) (λ u. record { pack = refl; births = refl; design = refl; number = refl })
note_names z l (L.import_begun n) q = absurd q
note_names z l (L.imported_page p r words) q = record { pack = refl; births = refl; design = refl; number = refl }
note_names z l (L.imported_slot s h t) q = absurd q
note_names z l (L.cut writes updates) q =
    let a = aside_all z.slots updates (finish_writes z.frames writes l) in let b = beside_all z.frames writes l in
    record { pack = a.pack ∙ b.pack; births = a.births ∙ b.births; design = a.design ∙ b.design; number = a.number ∙ b.number }

-- the disk's part of it
pub record SameNumbers (d d' : Disk) : Type 0 where
  pub numbers : d'.numbers ≡ d.numbers
  pub highest : d'.highest ≡ d.highest

pub numbers_same : (d : Disk) → SameNumbers d d
numbers_same d = record { numbers = refl; highest = refl }

pub view_same : (w w' : World) → SameNames w.ledger w'.ledger → SameNumbers w.state.disk w'.state.disk → view w' ≡ view w
view_same w w' a b = λ k. record { pack = a.pack k; births = a.births k; design = a.design k; number = a.number k; numbers = b.numbers k; highest = b.highest k }

-- ── events ──
-- no store of an event but create's and delete's is one of numbers
abbrev pub NoName : Event → Type 0
NoName (Event.Design (Create s q n)) = ⊥
NoName (Event.Design (Delete s)) = ⊥
NoName (Event.Design (Activate s)) = Unit {0}
NoName (Event.Design (Deactivate s)) = Unit {0}
NoName (Event.Account e) = Unit {0}
NoName (Event.Page e) = Unit {0}
NoName (Event.Writeback e) = Unit {0}
NoName (Event.Waiting e) = Unit {0}

event_stores_holds : (z : Sizes) (st : State) (e : Event) → NoName e → AfterEach (SameNumbers st.disk) (S.stores z st (S.event e)) st.disk
unfolding S.stores Writeback.store_frame Writeback.store_image
event_stores_holds z st (Event.Design (Create s q n)) i = absurd i
event_stores_holds z st (Event.Design (Delete s)) i = absurd i
event_stores_holds z st (Event.Design (Activate s)) i = tt
event_stores_holds z st (Event.Design (Deactivate s)) i = tt
event_stores_holds z st (Event.Account (Limit q n)) i = (record { numbers = refl; highest = refl }, tt)
event_stores_holds z st (Event.Account (Move g t m)) i = (record { numbers = refl; highest = refl }, tt)
event_stores_holds z st (Event.Page e) i = tt
event_stores_holds z st (Event.Writeback Claim) i = tt
event_stores_holds z st (Event.Writeback (Truncate s k)) i = tt
event_stores_holds z st (Event.Writeback (Update s)) i = tt
event_stores_holds z st (Event.Writeback (PageDone g good)) i = go (eqb ((frames st).frame g).transfer READING) (eqb good 1)
  where
    go : (b c : Bool) → AfterEach (SameNumbers st.disk) (if b [] (if c (Writeback.store_frame z st g ∷ []) [])) st.disk
    go true c = tt
    go false true = (record { numbers = refl; highest = refl }, tt)
    go false false = tt
event_stores_holds z st (Event.Writeback (MapDone s good)) i = go (eqb good 1)
  where
    go : (c : Bool) → AfterEach (SameNumbers st.disk) (if c (Writeback.store_image z st s ∷ []) []) st.disk
    go true = (record { numbers = refl; highest = refl }, tt)
    go false = tt
event_stores_holds z st (Event.Waiting e) i = tt

pub event_numbers : (z : Sizes) (st : State) (e : Event) → NoName e → SameNumbers st.disk (step z st e).left.disk
unfolding S.made S.answered
event_numbers z st e i = subst (SameNumbers st.disk) (sym (stores_whole z st e)) (after_first (SameNumbers st.disk) _ _ st.disk (numbers_same st.disk) (go (answer z st e)))
  where
    go : (n : ℕ) → AfterEach (SameNumbers st.disk) (S.by_answer n (S.stores z st (S.event e))) st.disk
    go zero = event_stores_holds z st e i
    go (suc n) = tt

turn_quiet : (z : Sizes) (st : State) (t : Turning) → Quiet (fed_turn z st t)
turn_quiet z st nobody = tt
turn_quiet z st serves = tt
turn_quiet z st goes_back = tt
turn_quiet z st faults = tt
turn_quiet z st claims = tt
turn_quiet z st (sends_away n) = tt

pub fed_quiet : (z : Sizes) (st : State) (e : Event) → NoName e → Quiet (fed z st e)
unfolding fed
fed_quiet z st (Event.Design (Create s q n)) i = absurd i
fed_quiet z st (Event.Design (Delete s)) i = absurd i
fed_quiet z st (Event.Design (Activate s)) i = tt
fed_quiet z st (Event.Design (Deactivate s)) i = tt
fed_quiet z st (Event.Account e) i = tt
fed_quiet z st (Event.Page (Fault s p)) i = tt
fed_quiet z st (Event.Page (Read s p w)) i = tt
fed_quiet z st (Event.Page (Write s p w x)) i = tt
fed_quiet z st (Event.Page (Wire s p)) i = tt
fed_quiet z st (Event.Page (Unwire s p)) i = tt
fed_quiet z st (Event.Writeback Claim) i = tt
fed_quiet z st (Event.Writeback (Truncate s k)) i = tt
fed_quiet z st (Event.Writeback (Update s)) i = tt
fed_quiet z st (Event.Writeback (PageDone f good)) i = tt
fed_quiet z st (Event.Writeback (MapDone s good)) i = tt
fed_quiet z st (Event.Waiting (Join s p)) i = tt
fed_quiet z st (Event.Waiting Turn) i = turn_quiet z st (turning z st)
