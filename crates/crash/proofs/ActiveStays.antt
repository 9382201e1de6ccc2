-- No event but activate and deactivate changes which designs are active, and no import does.
use mathlib.Core.Path.{◌≡◌, refl}
use Prim.Native.Nat.{ℕ}
use lib.Dec.{eqb}
use Rattle.tables.specs.Laws.{if_elim}
use Rattle.tables.specs.Store.{store}
use Rattle.tables.specs.Questions.{Asked}
use Rattle.model.specs.declared.sizes.Sizes.{Sizes}
use Rattle.model.specs.declared.event.Design.TheVariants.{Create, Delete, Activate, Deactivate}
use Rattle.model.specs.declared.event.Account.TheVariants.{Limit, Move}
use Rattle.model.specs.declared.event.Page.TheVariants.{Fault, Read, Write, Wire, Unwire}
use Rattle.model.specs.declared.event.Writeback.TheVariants.{Claim, Truncate, Update, PageDone, MapDone}
use Rattle.model.specs.declared.event.Waiting.TheVariants.{Join, Turn}
use Rattle.model.specs.declared.event.Event.{Event}
use Rattle.model.specs.declared.event.Event.TheVariants as Event
use Rattle.model.specs.Lines.{FREE, RELEASED}
use Rattle.model.specs.State.{Held, State}
use Rattle.model.specs.Setters.{on_disk, on_held, on_slots, set_states, set_owners, counted}
use Rattle.model.specs.Questions.{questions}
use Rattle.model.specs.Laws.Ruled.{Ruled}
use Rattle.model.specs.Laws.Fit.{Fit}
use Rattle.model.specs.Designs
use Rattle.model.specs.Accounts
use Rattle.model.specs.Pages
use Rattle.model.specs.Writeback
use Rattle.model.specs.Line
use Rattle.model.specs.Import.{Sheet, imported}
use Rattle.model.specs.Step.{carried}
use Rattle.invariant.proofs.Cases.{fault_by, claim_by, page_done_by}
use Rattle.invariant.proofs.LineKept.{by_turn}

abbrev Same : State → State → Type 0
Same st st' = st'.memory.slots.active ≡ st.memory.slots.active

-- an event that is neither
abbrev pub Neither : Event → Type 0
Neither (Event.Design (Create s q n)) = Unit {0}
Neither (Event.Design (Delete s)) = Unit {0}
Neither (Event.Design (Activate s)) = ⊥
Neither (Event.Design (Deactivate s)) = ⊥
Neither (Event.Account e) = Unit {0}
Neither (Event.Page e) = Unit {0}
Neither (Event.Writeback e) = Unit {0}
Neither (Event.Waiting e) = Unit {0}

module _ (z : Sizes) (st : State) where
  fault_stays : (s p : ℕ) → Same st (Pages.fault z st s p)
  unfolding Pages.begin_read Pages.serve_zeros Pages.take_record counted
  fault_stays s p = fault_by z st (Same st) s p refl (λ r. refl) refl

  claim_stays : Same st (Writeback.claim z st)
  unfolding Writeback.free_frame counted
  claim_stays = claim_by z st (Same st) refl refl refl

  done_stays : (f good : ℕ) → Same st (Writeback.page_done z st f good)
  unfolding Writeback.read_good Writeback.read_failed Writeback.store_frame Writeback.write_good Writeback.write_failed Writeback.free_frame counted
  done_stays f good = page_done_by z st (Same st) f good (λ t u. refl) (λ t u. refl) (λ t u. refl) (λ t u. refl)

  map_stays : (s good : ℕ) → Same st (Writeback.map_done z st s good)
  unfolding Writeback.store_image Writeback.map_done Writeback.update_over counted
  map_stays s good =
      let over : Held → State = λ h. on_slots (Writeback.update_over z st s) (on_held (λ x. h) st) in let h = st.memory.held in let stored : State → State = λ x. on_disk (Writeback.store_image z st s) x in
      let good' = stored (over (set_states (store h.states (Writeback.leaver z st s) (λ q. FREE)) (set_owners (store h.owners (Writeback.leaver z st s) (λ q. 0)) h))) in
      let failed = over (set_states (store h.states (Writeback.leaver z st s) (λ q. RELEASED)) h) in
      if_elim (Same st) (eqb good 1) good' failed (λ t. refl) (λ t. refl)

pub active_stays : (z : Sizes) (st : State) (e : Event) → Fit z st → Ruled z st → Asked (questions z st e) → Neither e → (carried z st e).memory.slots.active ≡ st.memory.slots.active
unfolding carried counted Accounts.limit Designs.create Designs.delete Accounts.move Pages.read Pages.write Pages.wire Pages.unwire Writeback.truncate Writeback.update Line.join
active_stays z st (Event.Account (Limit q n)) f r a t = refl
active_stays z st (Event.Account (Move g h m)) f r a t = refl
active_stays z st (Event.Design (Create s q n)) f r a t = refl
active_stays z st (Event.Design (Delete s)) f r a t = refl
active_stays z st (Event.Design (Activate s)) f r a t = absurd t
active_stays z st (Event.Design (Deactivate s)) f r a t = absurd t
active_stays z st (Event.Page (Fault s p)) f r a t = fault_stays z st s p
active_stays z st (Event.Page (Read s p w)) f r a t = refl
active_stays z st (Event.Page (Write s p w x)) f r a t = refl
active_stays z st (Event.Page (Wire s p)) f r a t = refl
active_stays z st (Event.Page (Unwire s p)) f r a t = refl
active_stays z st (Event.Writeback Claim) f r a t = claim_stays z st
active_stays z st (Event.Writeback (Truncate s k)) f r a t = refl
active_stays z st (Event.Writeback (Update s)) f r a t = refl
active_stays z st (Event.Writeback (PageDone g good)) f r a t = done_stays z st g good
active_stays z st (Event.Writeback (MapDone s good)) f r a t = map_stays z st s good
active_stays z st (Event.Waiting (Join s p)) f r a t = refl
active_stays z st (Event.Waiting Turn) f r a t = by_turn z st f r (Same st) (λ l h. refl) (λ k. fault_stays z st _ _) (λ k. claim_stays z st) a

pub import_stays : (z : Sizes) (st : State) (s q n : ℕ) (h : Sheet) → (imported z st s q n h).memory.slots.active ≡ st.memory.slots.active
unfolding imported counted
import_stays z st s q n h = refl
