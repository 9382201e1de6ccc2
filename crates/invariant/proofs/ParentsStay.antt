-- "stored on disk at format": no event, and no list of acts, changes a parent.
use mathlib.Core.Path.{◌≡◌, refl, ap, ◌∙◌}
use mathlib.Core.Bool.{Bool, true, false, ◌&&◌}
use mathlib.Core.List.{List, [], ◌∷◌, ◌++◌}
use Prim.Native.Nat.{ℕ, zero, suc}
use lib.Dec.{eqb}
use Rattle.tables.specs.Base.{if, tab}
use Rattle.tables.specs.Laws.{if_elim}
use Rattle.tables.specs.Store.{store}
use Rattle.tables.specs.Questions.{Asked, ask, none, first_no}
use Rattle.model.specs.declared.sizes.Sizes.{Sizes}
use Rattle.model.specs.declared.event.Design.TheVariants.{Create, Delete, Activate, Deactivate}
use Rattle.model.specs.declared.event.Account.TheVariants.{Limit, Move}
use Rattle.model.specs.declared.event.Page.TheVariants.{Fault, Read, Write, Wire, Unwire}
use Rattle.model.specs.declared.event.Writeback.TheVariants.{Claim, Truncate, Update, PageDone, MapDone}
use Rattle.model.specs.declared.event.Waiting.TheVariants.{Join, Turn}
use Rattle.model.specs.declared.event.Event.{Event}
use Rattle.model.specs.declared.event.Event.TheVariants as Event
use Rattle.model.specs.Lines.{FREE, RELEASED}
use Rattle.model.specs.State.{Disk, Memory, Held, State, files, frames, WRITING, READING}
use Rattle.model.specs.Setters.{on_disk, on_held, on_slots, set_states, set_owners, raise, counted}
use Rattle.model.specs.Rules.{disk_rules}
use Rattle.model.specs.Questions.{questions}
use Rattle.model.specs.Laws.Ruled.{Ruled, ruled}
use Rattle.model.specs.Laws.Fit.{Fit, fit}
use Rattle.model.specs.Designs
use Rattle.model.specs.Accounts
use Rattle.model.specs.Pages
use Rattle.model.specs.Writeback
use Rattle.model.specs.Line
use Rattle.model.specs.Restart as R
use Rattle.model.specs.Step.{outcome, all_fit, answer, carried, result, step, restart, supplied, whole}
use Rattle.model.specs.Stores as S
use Rattle.model.specs.Stores.{Call, stores, by_answer, made, first}
use Rattle.sheets.specs.Sheet.{count_in}
use Rattle.model.specs.Import.{sheet_of, store_record, store_slot, import_answer}
use Rattle.model.specs.Acts.{Act, event, looking, importing, exporting, restarting, cutting, World, act, run, start, land_writes, land_updates, landed, cutting_in, part, cut_off}
use Rattle.invariant.proofs.Cases.{fault_by, claim_by, page_done_by}
use Rattle.invariant.proofs.LineKept.{by_turn}
use Rattle.invariant.proofs.Stores.{AfterEach, after_first, each_after, import_whole}
use Rattle.invariant.proofs.Kept.{asked_all}

-- ── one event ──
abbrev Same : State → State → Type 0
Same st st' = st'.disk.parents ≡ st.disk.parents

-- a fault, a claim and the done reports store no parent
module _ (z : Sizes) (st : State) where
  fault_stays : (s p : ℕ) → Same st (Pages.fault z st s p)
  unfolding Pages.begin_read Pages.serve_zeros Pages.take_record counted
  fault_stays s p = fault_by z st (Same st) s p refl (λ r. refl) refl

  claim_stays : Same st (Writeback.claim z st)
  unfolding Writeback.free_frame counted
  claim_stays = claim_by z st (Same st) refl refl refl

  done_stays : (f good : ℕ) → Same st (Writeback.page_done z st f good)
  unfolding Writeback.read_good Writeback.read_failed Writeback.store_frame Writeback.write_good Writeback.write_failed Writeback.free_frame counted
  done_stays f good = page_done_by z st (Same st) f good (λ t u. refl) (λ t u. refl) (λ t u. refl) (λ t u. refl)

  map_stays : (s good : ℕ) → Same st (Writeback.map_done z st s good)
  unfolding Writeback.store_image Writeback.map_done counted
  map_stays s good =
      let over : Held → State = λ h. on_slots (Writeback.update_over z st s) (on_held (λ x. h) st) in let h = st.memory.held in let stored : State → State = λ x. on_disk (Writeback.store_image z st s) x in
      let good' = stored (over (set_states (store h.states (Writeback.leaver z st s) (λ q. FREE)) (set_owners (store h.owners (Writeback.leaver z st s) (λ q. 0)) h))) in
      let failed = over (set_states (store h.states (Writeback.leaver z st s) (λ q. RELEASED)) h) in
      if_elim (Same st) (eqb good 1) good' failed (λ t. refl) (λ t. refl)

carried_stays : (z : Sizes) (st : State) (e : Event) → Fit z st → Ruled z st → Asked (questions z st e) → Same st (carried z st e)
unfolding carried counted Accounts.limit Designs.create Designs.delete Designs.activate Designs.deactivate Accounts.move Pages.read Pages.write Pages.wire Pages.unwire Writeback.truncate Writeback.update Line.join
carried_stays z st (Event.Account (Limit q n)) f r a = refl
carried_stays z st (Event.Account (Move g t m)) f r a = refl
carried_stays z st (Event.Design (Create s q n)) f r a = refl
carried_stays z st (Event.Design (Delete s)) f r a = refl
carried_stays z st (Event.Design (Activate s)) f r a = refl
carried_stays z st (Event.Design (Deactivate s)) f r a = refl
carried_stays z st (Event.Page (Fault s p)) f r a = fault_stays z st s p
carried_stays z st (Event.Page (Read s p w)) f r a = refl
carried_stays z st (Event.Page (Write s p w x)) f r a = refl
carried_stays z st (Event.Page (Wire s p)) f r a = refl
carried_stays z st (Event.Page (Unwire s p)) f r a = refl
carried_stays z st (Event.Writeback Claim) f r a = claim_stays z st
carried_stays z st (Event.Writeback (Truncate s k)) f r a = refl
carried_stays z st (Event.Writeback (Update s)) f r a = refl
carried_stays z st (Event.Writeback (PageDone g good)) f r a = done_stays z st g good
carried_stays z st (Event.Writeback (MapDone s good)) f r a = map_stays z st s good
carried_stays z st (Event.Waiting (Join s p)) f r a = refl
carried_stays z st (Event.Waiting Turn) f r a = by_turn z st f r (Same st) (λ l h. refl) (λ k. fault_stays z st _ _) (λ k. claim_stays z st) a

-- For every state and every event, carried out or refused.
pub parents_stay : (z : Sizes) (st : State) (e : Event) → (step z st e).left.disk.parents ≡ st.disk.parents
unfolding step whole supplied
parents_stay z st e = go (answer z st e) refl
  where
    go : (n : ℕ) → answer z st e ≡ n → Same st (outcome n (result z st e) st (whole z st e)).left
    go zero h = let a = asked_all z st e h in carried_stays z st e (fit z st a.0) (ruled z st a.1.0) a.1.1
    go (suc n) h = refl

writes_land : (z : Sizes) (st : State) (lands : ℕ → Bool) (n : ℕ) (d : Disk) → (land_writes z st lands n d).parents ≡ d.parents
unfolding land_writes Writeback.store_frame
writes_land z st lands zero d = refl
writes_land z st lands (suc f) d = if_elim (λ (x : Disk). x.parents ≡ d.parents) (lands f && eqb ((frames st).frame f).transfer WRITING) _ _ (λ t. writes_land z st lands f d) (λ t. writes_land z st lands f d)

updates_land : (z : Sizes) (st : State) (lands : ℕ → Bool) (n : ℕ) (d : Disk) → (land_updates z st lands n d).parents ≡ d.parents
unfolding land_updates Writeback.store_image
updates_land z st lands zero d = refl
updates_land z st lands (suc s) d = if_elim (λ (x : Disk). x.parents ≡ d.parents) (lands s && eqb ((files st).updating s) 1) _ _ (λ t. updates_land z st lands s d) (λ t. updates_land z st lands s d)

cut_stays : (z : Sizes) (w : World) (writes updates : ℕ → Bool) (junk : Memory) → (cut_off z w writes updates junk).state.disk.parents ≡ w.state.disk.parents
unfolding landed
cut_stays z w writes updates junk = if_elim (λ (d : Disk). d.parents ≡ w.state.disk.parents) w.up _ _
    (λ u. updates_land z w.state updates z.slots _ ∙ writes_land z w.state writes z.frames w.state.disk) (λ u. refl)

-- no store of an event is one of the parents
abbrev Stays : State → Disk → Type 0
Stays st d = d.parents ≡ st.disk.parents

stores_stay : (z : Sizes) (st : State) (e : Event) → AfterEach (Stays st) (stores z st (S.event e)) st.disk
unfolding stores Writeback.store_frame Writeback.store_image
stores_stay z st (Event.Account (Limit q n)) = (refl, tt)
stores_stay z st (Event.Account (Move g t m)) = (refl, tt)
stores_stay z st (Event.Design (Create s q n)) = (refl, (refl, tt))
stores_stay z st (Event.Design (Delete s)) = (refl, tt)
stores_stay z st (Event.Design (Activate s)) = tt
stores_stay z st (Event.Design (Deactivate s)) = tt
stores_stay z st (Event.Page e) = tt
stores_stay z st (Event.Writeback Claim) = tt
stores_stay z st (Event.Writeback (Truncate s k)) = tt
stores_stay z st (Event.Writeback (Update s)) = tt
stores_stay z st (Event.Writeback (PageDone g good)) = go (eqb ((frames st).frame g).transfer READING) (eqb good 1)
  where
    go : (b c : Bool) → AfterEach (Stays st) (if b [] (if c (Writeback.store_frame z st g ∷ []) [])) st.disk
    go true c = tt
    go false true = (refl, tt)
    go false false = tt
stores_stay z st (Event.Writeback (MapDone s good)) = go (eqb good 1)
  where
    go : (c : Bool) → AfterEach (Stays st) (if c (Writeback.store_image z st s ∷ []) []) st.disk
    go true = (refl, tt)
    go false = tt
stores_stay z st (Event.Waiting e) = tt

import_stays : (z : Sizes) (st : State) (s q n : ℕ) (b : List ℕ) (k : ℕ) → Stays st (first k (made z st (S.importing s q n b)) st.disk)
unfolding made S.answered stores store_record store_slot
import_stays z st s q n b k = after_first (Stays st) k _ st.disk refl (go (import_answer z st s q n b))
  where
    go : (m : ℕ) → AfterEach (Stays st) (by_answer m (raise n ∷ tab (count_in b) (store_record z st s q n (sheet_of b)) 0 ++ store_slot z st s q n (sheet_of b) ∷ [])) st.disk
    go zero = (refl, each_after (Stays st) (store_record z st s q n (sheet_of b)) (store_slot z st s q n (sheet_of b)) (λ j x h. h) (λ x h. h) (count_in b) 0 (raise n st.disk) refl)
    go (suc m) = tt

part_stays : (z : Sizes) (w : World) (c : Call) (k : ℕ) → (part z w c k).state.disk.parents ≡ w.state.disk.parents
unfolding part made S.answered
part_stays z w (S.event e) k = after_first (Stays w.state) k _ w.state.disk refl (go (answer z w.state e))
  where
    go : (n : ℕ) → AfterEach (Stays w.state) (by_answer n (stores z w.state (S.event e))) w.state.disk
    go zero = stores_stay z w.state e
    go (suc n) = tt
part_stays z w (S.importing s q n b) k = import_stays z w.state s q n b k

act_stays : (z : Sizes) (w : World) (a : Act) → (act z w a).state.disk.parents ≡ w.state.disk.parents
unfolding act restart R.restarted R.raised counted landed
act_stays z w (event e) = parents_stay z w.state e
act_stays z w (looking s p) = refl
act_stays z w (importing s q n b) = ap (λ (d : Disk). d.parents) (import_whole z w.state s q n b) ∙ import_stays z w.state s q n b _
act_stays z w (exporting s buffer) = refl
act_stays z w restarting = go (first_no (ask 1 (all_fit z w.state) (ask 2 (disk_rules z w.state) none)))
  where
    go : (n : ℕ) → (outcome n 0 w.state (R.restarted z (R.raised z w.state.disk))).left.disk.parents ≡ w.state.disk.parents
    go zero = refl
    go (suc n) = refl
act_stays z w (cutting writes updates junk) = cut_stays z w writes updates junk
act_stays z w (cutting_in c k writes updates junk) = cut_stays z (part z w c k) writes updates junk ∙ part_stays z w c k

-- From any world, along every list of acts, the parents are those that it started with;
pub parents_along : (z : Sizes) (w : World) (acts : List Act) → (run z w acts).state.disk.parents ≡ w.state.disk.parents
unfolding run
parents_along z w [] = refl
parents_along z w (a ∷ acts) = parents_along z (act z w a) acts ∙ act_stays z w a

-- from a format, those that it stored.
pub parents_as_formatted : (z : Sizes) (parents : List ℕ) (junk : Memory) (acts : List Act) → (run z (start z (R.formatted z parents) junk) acts).state.disk.parents ≡ (R.formatted z parents).parents
unfolding start
parents_as_formatted z parents junk acts = parents_along z (start z (R.formatted z parents) junk) acts
