-- The events carried out: each table as the code leaves it.
use mathlib.Core.Path.{◌≡◌, refl}
use Prim.Native.Nat.{ℕ}
use native.Mathlib.Omega.{arith}
use lib.Dec.{T}
use lib.ListN.{set}
use Rattle.tables.specs.Base.{at}
use Rattle.tables.specs.Questions.{first_no}
use Rattle.tables.specs.Rule.{same, ◌and◌, complete}
use Rattle.tables.specs.Store.{store}
use Rattle.model.specs.declared.sizes.Sizes.{Sizes}
use Rattle.model.specs.declared.event.Design.{Design}
use Rattle.model.specs.declared.event.Design.TheVariants.{Create, Delete, Activate, Deactivate}
use Rattle.model.specs.declared.event.Event.TheVariants as Event
use Rattle.model.specs.declared.refusals.Refusal.{Refusal}
use Rattle.model.specs.Refusals.{number, refused, number_above}
use Rattle.model.specs.Lines.{FILED, LIVE, led, allowed}
use Rattle.model.specs.State.{State}
use Rattle.model.specs.Setters.{counted}
use Rattle.model.specs.Parts.{of_slot}
use Rattle.model.specs.Questions.{questions}
use Rattle.model.specs.Designs
use Rattle.model.specs.Step.{Outcome, carried, result}
use Rattle.model.specs.Laws.Own.{own}
use Rattle.model.specs.Laws.OwnLaws.{own_yes, own_no}

-- the two lines
pub filed_live : T (allowed FILED LIVE)
unfolding allowed
filed_live = complete (led FILED LIVE) (10, omega arith, (refl, refl))

pub live_filed : T (allowed LIVE FILED)
unfolding allowed
live_filed = complete (led LIVE FILED) (6, omega arith, (refl, refl))

module _ (z : Sizes) (st : State) where
  -- carried out, with no result
  pub carried_out_holds : (d : Design) → 0 ≡ first_no (questions z st (Event.Design d))
      → ◌≡◌ {A = Outcome State} (record { answer = record { refusal = 0; result = 0 }; left = carried z st (Event.Design d) }) (own z st (Event.Design d))
  unfolding result
  carried_out_holds d q = own_yes z st (Event.Design d) 0 q refl

  -- refused: nothing is changed
  pub refused_holds : (d : Design) (e : Refusal) → number e ≡ first_no (questions z st (Event.Design d))
      → ◌≡◌ {A = Outcome State} (record { answer = refused e; left = st }) (own z st (Event.Design d))
  refused_holds d e q = let above = number_above e in own_no z st (Event.Design d) (number e) q (λ h. omega (arith, above, h))

  pub create_numbers : (s q n : ℕ) → set st.disk.numbers s n ≡ (carried z st (Event.Design (Create s q n))).disk.numbers
  unfolding carried Designs.create counted
  create_numbers s q n = refl

  pub create_accounts : (s q n : ℕ) → set st.disk.accounts s q ≡ (carried z st (Event.Design (Create s q n))).disk.accounts
  unfolding carried Designs.create counted
  create_accounts s q n = refl

  pub create_highest : (s q n : ℕ) → set st.disk.highest 0 n ≡ (carried z st (Event.Design (Create s q n))).disk.highest
  unfolding carried Designs.create counted
  create_highest s q n = refl

  pub delete_numbers : (s : ℕ) → set st.disk.numbers s 0 ≡ (carried z st (Event.Design (Delete s))).disk.numbers
  unfolding carried Designs.delete counted
  delete_numbers s = refl

  pub delete_accounts : (s : ℕ) → set st.disk.accounts s 0 ≡ (carried z st (Event.Design (Delete s))).disk.accounts
  unfolding carried Designs.delete counted
  delete_accounts s = refl

  pub activate_addresses : (s : ℕ) → store st.memory.held.addresses (of_slot z s) (at st.disk.maps) ≡ (carried z st (Event.Design (Activate s))).memory.held.addresses
  unfolding carried Designs.activate counted
  activate_addresses s = refl

  pub activate_states : (s : ℕ) → store st.memory.held.states (λ r. same (at st.memory.held.states r) FILED and same (at st.memory.held.owners r) s) (λ r. LIVE) ≡ (carried z st (Event.Design (Activate s))).memory.held.states
  unfolding carried Designs.activate counted
  activate_states s = refl

  pub activate_active : (s : ℕ) → set st.memory.slots.active s 1 ≡ (carried z st (Event.Design (Activate s))).memory.slots.active
  unfolding carried Designs.activate counted
  activate_active s = refl

  pub deactivate_addresses : (s : ℕ) → store st.memory.held.addresses (of_slot z s) (λ i. 0) ≡ (carried z st (Event.Design (Deactivate s))).memory.held.addresses
  unfolding carried Designs.deactivate counted
  deactivate_addresses s = refl

  pub deactivate_states : (s : ℕ) → store st.memory.held.states (λ r. same (at st.memory.held.states r) LIVE and same (at st.memory.held.owners r) s) (λ r. FILED) ≡ (carried z st (Event.Design (Deactivate s))).memory.held.states
  unfolding carried Designs.deactivate counted
  deactivate_states s = refl

  pub deactivate_active : (s : ℕ) → set st.memory.slots.active s 0 ≡ (carried z st (Event.Design (Deactivate s))).memory.slots.active
  unfolding carried Designs.deactivate counted
  deactivate_active s = refl
