-- The tables that an event about an account reads, as a state: no definition of it looks at the others.
use Rattle.std.specs.Prelude.{List, ℕ}
use Rattle.model.specs.declared.frame.Frame.{Frame}
use Rattle.model.specs.State.{State}
use Rattle.model.specs.Setters.{on_disk, on_core, on_held, on_slots, set_accounts, set_maps, set_limits, set_parents, set_frames, set_addresses, set_states, set_active, set_used}
use Rattle.model.specs.Lent.{Table, no_state}
use Rattle.rules.specs.Promises.{MutTable}

abbrev pub seen : List Frame → List ℕ → List ℕ → List ℕ → List ℕ → List ℕ → List ℕ → List ℕ → List ℕ → State
seen frames accounts maps limits parents addresses states active used =
    set_used used (on_disk (λ d. set_accounts accounts (set_maps maps (set_limits limits (set_parents parents d)))) (on_core (set_frames frames) (on_held (λ h. set_addresses addresses (set_states states h)) (on_slots (set_active active) no_state))))

-- as they were passed, by bare names
abbrev pub entered_account : List Frame → (accounts maps : Table) (limits : MutTable) (parents addresses states active : Table) (used : MutTable) → State
entered_account frames accounts maps limits parents addresses states active used =
    seen frames accounts.entry.now maps.entry.now limits.entry.now parents.entry.now addresses.entry.now states.entry.now active.entry.now used.entry.now
