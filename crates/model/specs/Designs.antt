-- The events about a design: the state once each is carried out.
use Rattle.std.specs.Prelude.{ℕ, set}
use Rattle.tables.specs.Base.{at}
use Rattle.tables.specs.Rule.{same, ◌and◌}
use Rattle.tables.specs.Store.{store}
use Rattle.model.specs.declared.sizes.Sizes.{Sizes}
use Rattle.model.specs.Lines.{FILED, LIVE}
use Rattle.model.specs.State.{State}
use Rattle.model.specs.Setters.{on_disk, on_held, on_slots, set_numbers, set_accounts, set_addresses, set_states, set_active, raise, counted}
use Rattle.model.specs.Parts.{of_slot}

module _ (z : Sizes) (st : State) where
  -- Create stores number and account in an empty slot. (02) Create and import store the new highest first of all.
  unfoldable pub create : ℕ → ℕ → ℕ → State
  create s q n = counted z (on_disk (λ d. set_numbers (set d.numbers s n) (set_accounts (set d.accounts s q) (raise n d))) st)

  -- Delete empties a slot.
  unfoldable pub delete : ℕ → State
  delete s = counted z (on_disk (λ d. set_numbers (set d.numbers s 0) (set_accounts (set d.accounts s 0) d)) st)

  -- Activate gives pages their addresses from the map, live.
  unfoldable pub activate : ℕ → State
  activate s = counted z
      (on_slots (λ a. set_active (set a.active s 1) a)
      (on_held (λ h. set_addresses (store h.addresses (of_slot z s) (at st.disk.maps))
      (set_states (store h.states (λ r. same (at h.states r) FILED and same (at h.owners r) s) (λ r. LIVE)) h)) st))

  -- Deactivate undoes it.
  unfoldable pub deactivate : ℕ → State
  deactivate s = counted z
      (on_slots (λ a. set_active (set a.active s 0) a)
      (on_held (λ h. set_addresses (store h.addresses (of_slot z s) (λ i. 0))
      (set_states (store h.states (λ r. same (at h.states r) LIVE and same (at h.owners r) s) (λ r. FILED)) h)) st))
