-- Questions, results and all tables but the words are functions of all tables but the words, but for what a claim asks: is the page all zeros?
use mathlib.Core.Path.{◌≡◌, refl, ap, sym, subst}
use mathlib.Core.Bool.{Bool, true, false, not}
use mathlib.Core.List.{List}
use Prim.Native.Nat.{ℕ}
use lib.Dec.{T, eqb}
use Rattle.tables.specs.Base.{if}
use Rattle.tables.specs.Questions.{Asked}
use Rattle.model.specs.declared.sizes.Sizes.{Sizes}
use Rattle.model.specs.declared.event.Design.TheVariants.{Create, Delete, Activate, Deactivate}
use Rattle.model.specs.declared.event.Account.TheVariants.{Limit, Move}
use Rattle.model.specs.declared.event.Page.TheVariants.{Fault, Read, Write, Wire, Unwire}
use Rattle.model.specs.declared.event.Writeback.TheVariants.{Claim, Truncate, Update, PageDone, MapDone}
use Rattle.model.specs.declared.event.Waiting.TheVariants.{Join, Turn}
use Rattle.model.specs.declared.event.Event.{Event}
use Rattle.model.specs.declared.event.Event.TheVariants as Event
use Rattle.tables.specs.Rule.{same, test}
use Rattle.model.specs.State.{State, files, frames, READING, page_of, live, used_of, charged}
use Rattle.model.specs.Setters.{on_disk, on_core, set_records, set_words, set_chip, counted}
use Rattle.model.specs.Parts.{frame_of}
use Rattle.model.specs.Questions.{Turning, nobody, serves, goes_back, faults, claims, sends_away, questions, turning, turn_questions, would_store}
use Rattle.model.specs.Designs
use Rattle.model.specs.Accounts
use Rattle.model.specs.Pages
use Rattle.model.specs.Writeback
use Rattle.model.specs.Writeback.{begins_write}
use Rattle.model.specs.Line
use Rattle.model.specs.Step.{carried, result}
use Rattle.isolation.specs.Words.{set_copied, bare}

-- the state with other words
abbrev pub reworded : State → List ℕ → List ℕ → List ℕ → State
reworded st rs ws ks = on_disk (set_records rs) (on_core (set_words ws) (set_chip (set_copied ks st.memory.chip) st))

-- .. with the words of another
abbrev pub reworded_as : State → State → State
reworded_as st' st = reworded st st'.disk.records st'.memory.core.words st'.memory.chip.words

-- a state whose tables but the words are those of another is that one, reworded
pub is_reworded : (st st' : State) → bare st ≡ bare st' → st' ≡ reworded_as st' st
is_reworded st st' e = ap (reworded_as st') (sym e)

-- two states with the same tables but for the words
pub record Same (x y : State) : Type 0 where
  pub tables : bare x ≡ bare y

-- either of two states on each board
if_same : (a b : Bool) (x y x' y' : State) → a ≡ b → Same x x' → Same y y' → Same (if a x y) (if b x' y')
if_same a b x y x' y' e p q = subst (λ (c : Bool). Same (if a x y) (if c x' y')) e (go a)
  where
    go : (c : Bool) → Same (if c x y) (if c x' y')
    go true = p
    go false = q

-- the counts are of no words
pub counted_same : (z : Sizes) {x y : State} → Same x y → Same (counted z x) (counted z y)
unfolding counted used_of charged
counted_same z e = record { tables = ap (λ (s : State). bare (counted z s)) e.tables }

-- the event is a read
abbrev pub reads : Event → Bool
reads (Event.Design e) = false
reads (Event.Account e) = false
reads (Event.Page (Fault s p)) = false
reads (Event.Page (Read s p w)) = true
reads (Event.Page (Write s p w x)) = false
reads (Event.Page (Wire s p)) = false
reads (Event.Page (Unwire s p)) = false
reads (Event.Writeback e) = false
reads (Event.Waiting e) = false

module _ (z : Sizes) (st : State) (rs ws ks : List ℕ) where
  abbrev st' : State
  st' = reworded st rs ws ks

  pub questions_same : (e : Event) → questions z st' e ≡ questions z st e
  unfolding charged used_of counted Accounts.move turning would_store
  questions_same (Event.Design (Create s q n)) = refl
  questions_same (Event.Design (Delete s)) = refl
  questions_same (Event.Design (Activate s)) = refl
  questions_same (Event.Design (Deactivate s)) = refl
  questions_same (Event.Account (Limit q n)) = refl
  questions_same (Event.Account (Move g t m)) = refl
  questions_same (Event.Page (Fault s p)) = refl
  questions_same (Event.Page (Read s p w)) = refl
  questions_same (Event.Page (Write s p w x)) = refl
  questions_same (Event.Page (Wire s p)) = refl
  questions_same (Event.Page (Unwire s p)) = refl
  questions_same (Event.Writeback Claim) = refl
  questions_same (Event.Writeback (Truncate s k)) = refl
  questions_same (Event.Writeback (Update s)) = refl
  questions_same (Event.Writeback (PageDone f good)) = refl
  questions_same (Event.Writeback (MapDone s good)) = refl
  questions_same (Event.Waiting (Join s p)) = refl
  questions_same (Event.Waiting Turn) = refl

  -- ── the results: all but a read's ──
  pub result_same : (e : Event) → T (not (reads e)) → result z st' e ≡ result z st e
  unfolding result Writeback.looking Pages.fault_frame Line.turn_result turning charged
  result_same (Event.Design e) n = refl
  result_same (Event.Account e) n = refl
  result_same (Event.Page (Fault s p)) n = refl
  result_same (Event.Page (Read s p w)) n = absurd n
  result_same (Event.Page (Write s p w x)) n = refl
  result_same (Event.Page (Wire s p)) n = refl
  result_same (Event.Page (Unwire s p)) n = refl
  result_same (Event.Writeback Claim) n = refl
  result_same (Event.Writeback (Truncate s k)) n = refl
  result_same (Event.Writeback (Update s)) n = refl
  result_same (Event.Writeback (PageDone f good)) n = refl
  result_same (Event.Writeback (MapDone s good)) n = refl
  result_same (Event.Waiting (Join s p)) n = refl
  result_same (Event.Waiting Turn) n = refl

  -- ── all tables but the words ──
  fault_bare : (s p : ℕ) → Same (Pages.fault z st' s p) (Pages.fault z st s p)
  unfolding Pages.fault Pages.fault_frame Pages.begin_read Pages.serve_zeros Pages.take_record
  fault_bare s p = counted_same z (if_same (test (live (files st) (page_of z s p))) _ _ _ _ _ refl (record { tables = refl }) (if_same (test (same ((files st).address (page_of z s p)) 0)) _ _ _ _ _ refl (record { tables = refl }) (record { tables = refl })))

  claim_bare : begins_write z st' ≡ begins_write z st → Same (Writeback.claim z st') (Writeback.claim z st)
  unfolding Writeback.claim Writeback.looking Writeback.free_frame
  claim_bare e = counted_same z (if_same (begins_write z st') (begins_write z st) _ _ _ _ e (record { tables = refl }) (if_same (eqb ((frames st).frame (Writeback.looking z st).taken).modified 1) _ _ _ _ _ refl (record { tables = refl }) (record { tables = refl })))

  done_bare : (f good : ℕ) → Same (Writeback.page_done z st' f good) (Writeback.page_done z st f good)
  unfolding Writeback.page_done Writeback.read_good Writeback.read_failed Writeback.write_good Writeback.write_failed Writeback.free_frame Writeback.store_frame
  done_bare f good = counted_same z (if_same (eqb ((frames st).frame f).transfer READING) _ _ _ _ _ refl (if_same (eqb good 1) _ _ _ _ _ refl (record { tables = refl }) (record { tables = refl })) (if_same (eqb good 1) _ _ _ _ _ refl (record { tables = refl }) (record { tables = refl })))

  map_bare : (s good : ℕ) → Same (Writeback.map_done z st' s good) (Writeback.map_done z st s good)
  unfolding Writeback.map_done Writeback.store_image Writeback.update_over
  map_bare s good = counted_same z (if_same (eqb good 1) _ _ _ _ _ refl (record { tables = refl }) (record { tables = refl }))

  turned_bare : (t : Turning) → Asked (turn_questions z st t) → (Asked (questions z st (Event.Writeback Claim)) → begins_write z st' ≡ begins_write z st) → Same (Line.turned z st' t) (Line.turned z st t)
  turned_bare nobody a b = record { tables = refl }
  turned_bare serves a b = record { tables = refl }
  turned_bare goes_back a b = record { tables = refl }
  turned_bare faults a b = fault_bare _ _
  turned_bare claims a b = claim_bare (b a)
  turned_bare (sends_away n) a b = record { tables = refl }

  turn_bare : Asked (questions z st (Event.Waiting Turn)) → (Asked (questions z st (Event.Writeback Claim)) → begins_write z st' ≡ begins_write z st) → Same (Line.turn z st') (Line.turn z st)
  unfolding Line.turn turning charged
  turn_bare a b = turned_bare (turning z st) a b

  pub carried_bare : (e : Event) → Asked (questions z st e) → (Asked (questions z st (Event.Writeback Claim)) → begins_write z st' ≡ begins_write z st) → Same (carried z st' e) (carried z st e)
  unfolding carried counted charged used_of Designs.create Designs.delete Designs.activate Designs.deactivate Accounts.limit Accounts.move Pages.read Pages.write Pages.wire Pages.unwire Writeback.truncate Writeback.cut_frames Writeback.update would_store frame_of Line.join
  carried_bare (Event.Design (Create s q n)) a b = record { tables = refl }
  carried_bare (Event.Design (Delete s)) a b = record { tables = refl }
  carried_bare (Event.Design (Activate s)) a b = record { tables = refl }
  carried_bare (Event.Design (Deactivate s)) a b = record { tables = refl }
  carried_bare (Event.Account (Limit q n)) a b = record { tables = refl }
  carried_bare (Event.Account (Move g t m)) a b = record { tables = refl }
  carried_bare (Event.Page (Fault s p)) a b = fault_bare s p
  carried_bare (Event.Page (Read s p w)) a b = record { tables = refl }
  carried_bare (Event.Page (Write s p w x)) a b = record { tables = refl }
  carried_bare (Event.Page (Wire s p)) a b = record { tables = refl }
  carried_bare (Event.Page (Unwire s p)) a b = record { tables = refl }
  carried_bare (Event.Writeback Claim) a b = claim_bare (b a)
  carried_bare (Event.Writeback (Truncate s k)) a b = record { tables = refl }
  carried_bare (Event.Writeback (Update s)) a b = record { tables = refl }
  carried_bare (Event.Writeback (PageDone f good)) a b = done_bare f good
  carried_bare (Event.Writeback (MapDone s good)) a b = map_bare s good
  carried_bare (Event.Waiting (Join s p)) a b = record { tables = refl }
  carried_bare (Event.Waiting Turn) a b = turn_bare a b

  -- a write of another value
  pub write_bare : (s p w x y : ℕ) → Same (Pages.write z st' s p w y) (Pages.write z st s p w x)
  unfolding Pages.write counted charged used_of frame_of
  write_bare s p w x y = record { tables = refl }
