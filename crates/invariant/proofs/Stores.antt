-- The disk after a call that is carried out is what its own stores leave, in order.
use mathlib.Core.Path.{◌≡◌, refl, ap, sym, ◌∙◌, subst}
use mathlib.Core.Bool.{Bool, true, false}
use mathlib.Core.List.{List, [], ◌∷◌, ◌++◌}
use Prim.Native.Nat.{ℕ, zero, suc, ◌+◌, ◌<◌, ◌≤◌}
use native.Mathlib.Omega.{arith}
use lib.Dec.{eqb}
use lib.ListN.{length, length-append}
use Rattle.tables.specs.Base.{if, tab}
use Rattle.tables.specs.Laws.{length_tab}
use Rattle.tables.specs.Questions.{Asked}
use Rattle.tables.specs.Store.{store}
use Rattle.sheets.specs.Sheet.{number_in, count_in}
use Rattle.model.specs.declared.sizes.Sizes.{Sizes}
use Rattle.model.specs.declared.event.Design.TheVariants.{Create, Delete, Activate, Deactivate}
use Rattle.model.specs.declared.event.Account.TheVariants.{Limit, Move}
use Rattle.model.specs.declared.event.Page.TheVariants.{Fault, Read, Write, Wire, Unwire}
use Rattle.model.specs.declared.event.Writeback.TheVariants.{Claim, Truncate, Update, PageDone, MapDone}
use Rattle.model.specs.declared.event.Waiting.TheVariants.{Join, Turn}
use Rattle.model.specs.declared.event.Event.{Event}
use Rattle.model.specs.declared.event.Event.TheVariants as Event
use Rattle.model.specs.Lines.{FREE, RELEASED}
use Rattle.model.specs.State.{Disk, Held, State, frames, READING}
use Rattle.model.specs.Setters.{on_disk, on_held, on_slots, set_states, set_owners, raise, counted}
use Rattle.model.specs.Questions.{questions}
use Rattle.model.specs.Laws.Ruled.{Ruled, ruled}
use Rattle.model.specs.Laws.Fit.{Fit, fit}
use Rattle.model.specs.Designs
use Rattle.model.specs.Accounts
use Rattle.model.specs.Pages
use Rattle.model.specs.Writeback
use Rattle.model.specs.Line
use Rattle.model.specs.Step as Step
use Rattle.model.specs.Step.{outcome, answer, carried, result, step}
use Rattle.model.specs.Import
use Rattle.model.specs.Import.{Sheet, sheet_of, store_record, store_slot, imported, import_answer, import}
use Rattle.model.specs.Stores as S
use Rattle.model.specs.Stores.{stores, by_answer, made, first, all_of}
use Rattle.invariant.proofs.Cases.{fault_by, claim_by}
use Rattle.invariant.proofs.LineKept.{by_turn}
use Rattle.invariant.proofs.Kept.{asked_all}

-- ── the disk after a call ──
abbrev Same : State → State → Type 0
Same st st' = st'.disk ≡ st.disk

module _ (z : Sizes) (st : State) where
  fault_same : (s p : ℕ) → Same st (Pages.fault z st s p)
  unfolding Pages.begin_read Pages.serve_zeros Pages.take_record counted
  fault_same s p = fault_by z st (Same st) s p refl (λ r. refl) refl

  claim_same : Same st (Writeback.claim z st)
  unfolding Writeback.free_frame counted
  claim_same = claim_by z st (Same st) refl refl refl

  done_stores : (f good : ℕ) → (Writeback.page_done z st f good).disk ≡ all_of (stores z st (S.event (Event.Writeback (PageDone f good)))) st.disk
  unfolding stores first Writeback.page_done Writeback.read_good Writeback.read_failed Writeback.write_good Writeback.write_failed Writeback.free_frame counted
  done_stores f good = go (eqb ((frames st).frame f).transfer READING) (eqb good 1)
    where
      go : (a b : Bool)
          → (if a (if b (Writeback.read_good z st f) (Writeback.read_failed z st f)) (if b (Writeback.write_good z st f) (Writeback.write_failed z st f))).disk
          ≡ all_of (if a [] (if b (Writeback.store_frame z st f ∷ []) [])) st.disk
      go true true = refl
      go true false = refl
      go false true = refl
      go false false = refl

  map_stores : (s good : ℕ) → (Writeback.map_done z st s good).disk ≡ all_of (stores z st (S.event (Event.Writeback (MapDone s good)))) st.disk
  unfolding stores first Writeback.map_done counted
  map_stores s good = go (eqb good 1)
      (over (λ h. set_states (store h.states (Writeback.leaver z st s) (λ r. FREE)) (set_owners (store h.owners (Writeback.leaver z st s) (λ r. 0)) h)))
      (over (λ h. set_states (store h.states (Writeback.leaver z st s) (λ r. RELEASED)) h)) refl refl
    where
      over : (Held → Held) → State
      over f = on_slots (Writeback.update_over z st s) (on_held f st)

      go : (b : Bool) (x y : State) → x.disk ≡ st.disk → y.disk ≡ st.disk → (if b (on_disk (Writeback.store_image z st s) x) y).disk ≡ all_of (if b (Writeback.store_image z st s ∷ []) []) st.disk
      go true x y e f = ap (Writeback.store_image z st s) e
      go false x y e f = f

carried_stores : (z : Sizes) (st : State) (e : Event) → Fit z st → Ruled z st → Asked (questions z st e) → (carried z st e).disk ≡ all_of (stores z st (S.event e)) st.disk
unfolding carried stores first counted Designs.create Designs.delete Designs.activate Designs.deactivate Accounts.limit Accounts.move Pages.read Pages.write Pages.wire Pages.unwire Writeback.truncate Writeback.update Line.join
carried_stores z st (Event.Design (Create s q n)) f r a = refl
carried_stores z st (Event.Design (Delete s)) f r a = refl
carried_stores z st (Event.Design (Activate s)) f r a = refl
carried_stores z st (Event.Design (Deactivate s)) f r a = refl
carried_stores z st (Event.Account (Limit q n)) f r a = refl
carried_stores z st (Event.Account (Move g t m)) f r a = refl
carried_stores z st (Event.Page (Fault s p)) f r a = fault_same z st s p
carried_stores z st (Event.Page (Read s p w)) f r a = refl
carried_stores z st (Event.Page (Write s p w x)) f r a = refl
carried_stores z st (Event.Page (Wire s p)) f r a = refl
carried_stores z st (Event.Page (Unwire s p)) f r a = refl
carried_stores z st (Event.Writeback Claim) f r a = claim_same z st
carried_stores z st (Event.Writeback (Truncate s k)) f r a = refl
carried_stores z st (Event.Writeback (Update s)) f r a = refl
carried_stores z st (Event.Writeback (PageDone g good)) f r a = done_stores z st g good
carried_stores z st (Event.Writeback (MapDone s good)) f r a = map_stores z st s good
carried_stores z st (Event.Waiting (Join s p)) f r a = refl
carried_stores z st (Event.Waiting Turn) f r a = by_turn z st f r (Same st) (λ l h. refl) (λ k. fault_same z st _ _) (λ k. claim_same z st) a

-- For every state and every event, carried out or refused: its stores, in order, and nothing stored otherwise.
pub stores_whole : (z : Sizes) (st : State) (e : Event) → (step z st e).left.disk ≡ all_of (made z st (S.event e)) st.disk
unfolding step Step.whole Step.supplied made S.answered
stores_whole z st e = go (answer z st e) refl
  where
    go : (n : ℕ) → answer z st e ≡ n → (outcome n (result z st e) st (Step.whole z st e)).left.disk ≡ all_of (by_answer n (stores z st (S.event e))) st.disk
    go zero h = let a = asked_all z st e h in carried_stores z st e (fit z st a.0) (ruled z st a.1.0) a.1.1
    go (suc n) h = unfold first in refl

-- ── the stores of an import ──
first_split : (k : ℕ) (f : ℕ → Disk → Disk) (n i : ℕ) (rest : List (Disk → Disk)) (d : Disk) → k < n → first (suc k) (tab n f i ++ rest) d ≡ f (i + k) (first k (tab n f i ++ rest) d)
unfolding first tab
first_split k f zero i rest d h = absurd (omega (arith, h))
first_split zero f (suc n) i rest d h = ap (λ (j : ℕ). f j d) (omega arith)
first_split (suc k) f (suc n) i rest d h = first_split k f n (suc i) rest (f i d) (omega (arith, h)) ∙ ap (λ (j : ℕ). f j (first k (tab n f (suc i) ++ rest) (f i d))) (omega arith)

first_last : (fs : List (Disk → Disk)) (g : Disk → Disk) (d : Disk) → first (suc (length fs)) (fs ++ g ∷ []) d ≡ g (first (length fs) (fs ++ g ∷ []) d)
unfolding first
first_last [] g d = refl
first_last (f ∷ fs) g d = first_last fs g (f d)

module _ (z : Sizes) (st : State) (s q n : ℕ) (b : List ℕ) where
  abbrev h : Sheet
  h = sheet_of b

  abbrev all : List (Disk → Disk)
  all = stores z st (S.importing s q n b)

  -- the first is the new highest number, the next k are those of the first k records
  pub first_made : (k : ℕ) → k ≤ count_in b → first (suc k) all st.disk ≡ Import.made z st s q n h k (raise n st.disk)
  unfolding stores first Import.made
  first_made zero i = refl
  first_made (suc k) i =
      first_split k (store_record z st s q n h) (count_in b) 0 (store_slot z st s q n h ∷ []) (raise n st.disk) i
      ∙ ap (λ (j : ℕ). store_record z st s q n h j (first (suc k) all st.disk)) (omega arith)
      ∙ ap (store_record z st s q n h k) (first_made k (omega (arith, i)))

  pub stores_long : length all ≡ suc (suc (count_in b))
  unfolding stores
  stores_long = ap suc (length-append (tab (count_in b) (store_record z st s q n h) 0) (store_slot z st s q n h ∷ []) ∙ omega (arith, length_tab (count_in b) (store_record z st s q n h) 0))

  last_one : first (suc (suc (count_in b))) all st.disk ≡ store_slot z st s q n h (first (suc (count_in b)) all st.disk)
  unfolding stores first
  last_one =
      let fs : List (Disk → Disk) = tab (count_in b) (store_record z st s q n h) 0 in
      let g : Disk → Disk = store_slot z st s q n h in
      let d : Disk = raise n st.disk in
      subst (λ (k : ℕ). first (suc k) (fs ++ g ∷ []) d ≡ g (first k (fs ++ g ∷ []) d)) (length_tab (count_in b) (store_record z st s q n h) 0) (first_last fs g d)

  whole : (imported z st s q n h).disk ≡ all_of all st.disk
  unfolding imported counted
  whole = sym (ap (λ (k : ℕ). first k all st.disk) stores_long ∙ last_one ∙ ap (store_slot z st s q n h) (first_made (count_in b) (omega arith)))

  -- For every state and every import, carried out or refused.
  pub import_whole : (import z st s q n b).left.disk ≡ all_of (made z st (S.importing s q n b)) st.disk
  unfolding import made S.answered
  import_whole = go (import_answer z st s q n b)
    where
      go : (m : ℕ) → (outcome m (number_in b) st (imported z st s q n h)).left.disk ≡ all_of (by_answer m all) st.disk
      go zero = whole
      go (suc m) = unfold first in refl

-- ── in the midst of a call ──
-- something holds of the disk after each of some stores
abbrev pub AfterEach : (Disk → Type 0) → List (Disk → Disk) → Disk → Type 0
AfterEach P [] d = Unit {0}
AfterEach P (f ∷ fs) d = P (f d) × AfterEach P fs (f d)

-- so it holds after the first k, if it held before
pub after_first : (P : Disk → Type 0) (k : ℕ) (fs : List (Disk → Disk)) (d : Disk) → P d → AfterEach P fs d → P (first k fs d)
unfolding first
after_first P zero fs d h a = h
after_first P (suc k) [] d h a = h
after_first P (suc k) (f ∷ fs) d h a = after_first P k fs (f d) a.0 a.1

-- and after each of an import's, where each keeps it
pub each_after : (P : Disk → Type 0) (f : ℕ → Disk → Disk) (g : Disk → Disk) → ((j : ℕ) (x : Disk) → P x → P (f j x)) → ((x : Disk) → P x → P (g x)) → (n i : ℕ) (d : Disk) → P d → AfterEach P (tab n f i ++ g ∷ []) d
unfolding tab
each_after P f g k l zero i d h = (l d h, tt)
each_after P f g k l (suc n) i d h = (k i d h, each_after P f g k l n (suc i) (f i d) (k i d h))
