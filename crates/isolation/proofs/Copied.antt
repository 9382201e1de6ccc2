-- What the chip does with an event looks at no word: which copy a fault takes, what goes in and what is dropped are functions of all tables but the words.
use mathlib.Core.Path.{◌≡◌, refl, ap, sym, ◌∙◌}
use mathlib.Core.Bool.{Bool, true, false}
use mathlib.Core.List.{List}
use Prim.Native.Nat.{ℕ}
use lib.Dec.{eqb}
use Rattle.tables.specs.Base.{if}
use Rattle.tables.specs.Rule.{test}
use Rattle.model.specs.declared.sizes.Sizes.{Sizes}
use Rattle.model.specs.declared.event.Page.TheVariants.{Fault, Read, Write, Wire, Unwire}
use Rattle.model.specs.declared.event.Writeback.TheVariants.{Claim, Truncate, Update, PageDone, MapDone}
use Rattle.model.specs.declared.event.Waiting.TheVariants.{Join, Turn}
use Rattle.model.specs.declared.event.Event.{Event}
use Rattle.model.specs.declared.event.Event.TheVariants as Event
use Rattle.model.specs.State.{Chip, State, files, charged}
use Rattle.model.specs.Setters.{on_core, set_chip}
use Rattle.model.specs.Questions.{turning}
use Rattle.model.specs.Pages.{fault_frame}
use Rattle.model.specs.Writeback.{record_in}
use Rattle.model.specs.Chip.{place_of, place_for, copied, found, take_copy, arrives, only_live}
use Rattle.model.specs.Step.{carried, is_fault, supplied, filled, whole}
use Rattle.isolation.specs.Words.{set_copied, bare_chip, bare}
use Rattle.isolation.proofs.Reworded.{reworded, reworded_as, is_reworded, Same, write_bare}

-- a copy that a fault takes: the same place, into the same frame
arrives_bare : (z : Sizes) (k : Chip) (x : State) (f : ℕ) (b : Bool) (ks rs ws js : List ℕ)
    → (let y = reworded x rs ws js in Same (on_core (λ c. if b (arrives z (set_copied ks k) y f c) c) y) (on_core (λ c. if b (arrives z k x f c) c) x))
unfolding arrives
arrives_bare z k x f false ks rs ws js = record { tables = refl }
arrives_bare z k x f true ks rs ws js = go (test (found z k x f))
  where
    go : (t : Bool) → (let y = reworded x rs ws js in Same (on_core (λ c. if t (take_copy z (set_copied ks k) f (place_of z (set_copied ks k) (record_in z y f)) c) c) y) (on_core (λ c. if t (take_copy z k f (place_of z k (record_in z x f)) c) c) x))
    go true = record { tables = unfold take_copy in refl }
    go false = record { tables = refl }

-- ── two events that leave the same tables ──
module _ (z : Sizes) (st st' : State) (e e' : Event) (left : Same (carried z st' e') (carried z st e)) where
  abbrev k : Chip
  k = st.memory.chip

  abbrev k' : Chip
  k' = st'.memory.chip

  -- a fault on both or on neither, with the same places filled and the same first frame
  supplied_same : is_fault z st' e' ≡ is_fault z st e → bare_chip k' ≡ bare_chip k → fault_frame st' ≡ fault_frame st → Same (supplied z st' e') (supplied z st e)
  unfolding supplied
  supplied_same b p f =
      let x : State = carried z st e in let x' : State = carried z st' e' in
      let is : x' ≡ reworded_as x' x = is_reworded x x' (sym left.tables) in
      let has : k' ≡ set_copied k'.words k = ap (set_copied k'.words) p in
      let same : bare (supplied z st' e') ≡ bare (on_core (λ c. if (is_fault z st e) (arrives z (set_copied k'.words k) (reworded_as x' x) (fault_frame st) c) c) (reworded_as x' x))
      = λ i. bare (on_core (λ c. if (b i) (arrives z (has i) (is i) (f i) c) c) (is i)) in
      record { tables = same ∙ (arrives_bare z k x (fault_frame st) (is_fault z st e) _ _ _ _).tables }

  pub whole_same : is_fault z st' e' ≡ is_fault z st e → bare_chip k' ≡ bare_chip k → fault_frame st' ≡ fault_frame st → bare_chip (filled z st' e' k') ≡ bare_chip (filled z st e k) → Same (whole z st' e') (whole z st e)
  unfolding whole only_live
  whole_same b p f g = let s = supplied_same b p f in record { tables = λ i. set_chip (bare_chip (only_live z (files (left.tables i)).state (g i))) (s.tables i) }

-- ── the same event, and a write of another value ──
module _ (z : Sizes) (st : State) (rs ws ks : List ℕ) where
  abbrev other : State
  other = reworded st rs ws ks

  fault_same : (e : Event) → is_fault z other e ≡ is_fault z st e
  unfolding is_fault turning charged
  fault_same (Event.Design e) = refl
  fault_same (Event.Account e) = refl
  fault_same (Event.Page (Fault s p)) = refl
  fault_same (Event.Page (Read s p w)) = refl
  fault_same (Event.Page (Write s p w x)) = refl
  fault_same (Event.Page (Wire s p)) = refl
  fault_same (Event.Page (Unwire s p)) = refl
  fault_same (Event.Writeback e) = refl
  fault_same (Event.Waiting (Join s p)) = refl
  fault_same (Event.Waiting Turn) = refl

  abbrev Filled : Event → Type 0
  Filled e = bare_chip (filled z other e other.memory.chip) ≡ bare_chip (filled z st e st.memory.chip)

  -- the place that a record's words go into
  copied_same : (r : ℕ) (word word' : ℕ → ℕ) (b : Bool) → bare_chip (if b (copied z r word' other.memory.chip) other.memory.chip) ≡ bare_chip (if b (copied z r word st.memory.chip) st.memory.chip)
  unfolding copied place_for place_of
  copied_same r word word' true = refl
  copied_same r word word' false = refl

  filled_same : (e : Event) → Filled e
  unfolding filled
  filled_same (Event.Design e) = refl
  filled_same (Event.Account e) = refl
  filled_same (Event.Page e) = refl
  filled_same (Event.Writeback Claim) = refl
  filled_same (Event.Writeback (Truncate s k)) = refl
  filled_same (Event.Writeback (Update s)) = refl
  filled_same (Event.Writeback (PageDone f good)) = copied_same (record_in z st f) _ _ (eqb good 1)
  filled_same (Event.Writeback (MapDone s good)) = refl
  filled_same (Event.Waiting e) = refl

  first_same : fault_frame other ≡ fault_frame st
  unfolding fault_frame
  first_same = refl

  pub whole_bare : (e : Event) → Same (carried z other e) (carried z st e) → Same (whole z other e) (whole z st e)
  whole_bare e left = whole_same z st other e e left (fault_same e) refl first_same (filled_same e)

  pub write_whole : (s p w x y : ℕ) → Same (whole z other (Event.Page (Write s p w y))) (whole z st (Event.Page (Write s p w x)))
  unfolding carried is_fault filled
  write_whole s p w x y = whole_same z st other (Event.Page (Write s p w x)) (Event.Page (Write s p w y)) (write_bare z st rs ws ks s p w x y) refl refl first_same refl
