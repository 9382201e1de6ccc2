-- The tables that an event about a page reads, as a state: no definition of the event looks at the others.
use Rattle.std.specs.Prelude.{List, [], ℕ}
use Rattle.model.specs.declared.frame.Frame.{Frame}
use Rattle.model.specs.declared.frame.Pool.{Pool}
use Rattle.model.specs.State.{State}
use Rattle.model.specs.Setters.{on_disk, on_core, on_held, on_slots, set_numbers, set_accounts, set_limits, set_parents, set_frames, set_words, set_free_queue, set_removal_list}
use Rattle.model.specs.Setters.{set_addresses, set_states, set_owners, set_free_map, set_hand, set_free, set_active, set_used}
use Rattle.model.specs.Lent.{no_state}

-- of a read, a wire, an unwire and a page look: frames, numbers, words, removal list, active switches
abbrev pub seen : List Frame → List ℕ → List ℕ → List ℕ → List ℕ → State
seen frames numbers words list active =
    on_disk (set_numbers numbers) (on_core (λ c. set_frames frames (set_words words (set_removal_list list c))) (on_slots (set_active active) no_state))

-- .. as a read is passed them,
abbrev pub entered_words : List Frame → List ℕ → List ℕ → List ℕ → State
entered_words frames numbers words active = seen frames numbers words [] active

-- and as a wire and an unwire are
abbrev pub entered_list : List Frame → List ℕ → List ℕ → List ℕ → State
entered_list frames numbers list active = seen frames numbers [] list active

-- of a write: these but the list, and what is charged to whom
abbrev pub seen_write : List Frame → List ℕ → List ℕ → List ℕ → List ℕ → List ℕ → List ℕ → List ℕ → List ℕ → List ℕ → State
seen_write frames numbers accounts limits parents words addresses states active used =
    on_disk (λ d. set_numbers numbers (set_accounts accounts (set_limits limits (set_parents parents d))))
    (on_core (λ c. set_frames frames (set_words words c)) (on_held (λ h. set_addresses addresses (set_states states h)) (on_slots (set_active active) (set_used used no_state))))

-- .. as it is passed them
abbrev pub entered_write : List Frame → List ℕ → List ℕ → List ℕ → List ℕ → List ℕ → List ℕ → List ℕ → List ℕ → List ℕ → State
entered_write frames numbers accounts limits parents words addresses states active used =
    seen_write frames numbers accounts limits parents words addresses states active used

-- of a fault: all but what is charged to whom, the records, the maps, the update switches and the images
abbrev pub seen_fault : List Frame → Pool → List ℕ → List ℕ → List ℕ → List ℕ → List ℕ → List ℕ → List ℕ → List ℕ → List ℕ → State
seen_fault frames pool numbers words queue list addresses states owners map active =
    on_disk (set_numbers numbers)
    (on_core (λ c. set_frames frames (set_words words (set_free_queue queue (set_removal_list list c))))
    (on_held (λ h. set_addresses addresses (set_states states (set_owners owners (set_free_map map (set_hand pool.hand (set_free pool.free h))))))
    (on_slots (set_active active) no_state)))

-- .. as it is passed them
abbrev pub entered_fault : List Frame → Pool → List ℕ → List ℕ → List ℕ → List ℕ → List ℕ → List ℕ → List ℕ → List ℕ → List ℕ → State
entered_fault frames pool numbers words queue list addresses states owners map active =
    seen_fault frames pool numbers words queue list addresses
    states owners map active
