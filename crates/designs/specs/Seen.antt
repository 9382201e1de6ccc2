-- The tables that an event about a design reads, as a state: no definition of the event looks at the others.
use Rattle.std.specs.Prelude.{List, [], ℕ}
use Rattle.model.specs.declared.frame.Frame.{Frame}
use Rattle.model.specs.State.{State}
use Rattle.model.specs.Setters.{on_disk, on_core, on_held, on_slots, set_numbers, set_accounts, set_maps, set_highest, set_frames, set_addresses, set_states, set_owners, set_active, set_updating}
use Rattle.model.specs.Lent.{no_state}

-- of a create: numbers, accounts, the highest number
abbrev pub seen_create : List ℕ → List ℕ → List ℕ → State
seen_create numbers accounts highest = on_disk (λ d. set_numbers numbers (set_accounts accounts (set_highest highest d))) no_state

-- of a delete: numbers, accounts, maps, active switches
abbrev pub seen_files : List ℕ → List ℕ → List ℕ → List ℕ → State
seen_files numbers accounts maps active =
    on_disk (λ d. set_numbers numbers (set_accounts accounts (set_maps maps d))) (on_slots (set_active active) no_state)

-- of an activate and a deactivate: frames, numbers, maps, addresses, states, owners, active and update switches
abbrev pub seen_turns : List Frame → List ℕ → List ℕ → List ℕ → List ℕ → List ℕ → List ℕ → List ℕ → State
seen_turns frames numbers maps addresses states owners active updating =
    on_disk (λ d. set_numbers numbers (set_maps maps d)) (on_core (set_frames frames) (on_held (λ h. set_addresses addresses (set_states states (set_owners owners h)))
    (on_slots (λ a. set_active active (set_updating updating a)) no_state)))

-- ── as they were passed: what the contracts speak of ──
-- to a create,
abbrev pub entered_create : List ℕ → List ℕ → List ℕ → State
entered_create numbers accounts highest = seen_create numbers accounts highest

-- a delete,
abbrev pub entered_delete : List ℕ → List ℕ → List ℕ → List ℕ → State
entered_delete numbers accounts maps active = seen_files numbers accounts maps active

-- an activate
abbrev pub entered_activate : List ℕ → List ℕ → List ℕ → List ℕ → List ℕ → List ℕ → State
entered_activate numbers maps addresses states owners active =
    seen_turns [] numbers maps addresses states owners active []

-- and a deactivate
abbrev pub entered_deactivate : List Frame → List ℕ → List ℕ → List ℕ → List ℕ → List ℕ → List ℕ → List ℕ → State
entered_deactivate frames numbers maps addresses states owners active updating =
    seen_turns frames numbers maps addresses states owners active updating
