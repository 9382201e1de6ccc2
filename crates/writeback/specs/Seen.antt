-- The events of this crate by name, and the tables that each reads, as a state: no definition of the event looks at the others.
use Rattle.std.specs.Prelude.{List, ℕ}
use Rattle.model.specs.declared.frame.Frame.{Frame}
use Rattle.model.specs.declared.frame.Pool.{Pool}
use Rattle.model.specs.declared.event.Event.{Event}
use Rattle.model.specs.declared.event.Writeback.TheVariants as Writeback
use Rattle.model.specs.State.{State}
use Rattle.model.specs.Setters.{on_disk, on_core, on_held, on_slots, set_records, set_numbers, set_accounts, set_limits, set_parents, set_frames, set_words, set_free_queue, set_removal_list}
use Rattle.model.specs.Setters.{set_maps, set_addresses, set_states, set_owners, set_free_map, set_hand, set_free, set_active, set_updating, set_images, set_used}
use Rattle.model.specs.Lent.{no_state}

-- ── claim ──
abbrev pub claim : Event
claim = Event.Writeback Writeback.Claim

abbrev pub seen_claim : List Frame → List ℕ → List ℕ → List ℕ → List ℕ → List ℕ → List ℕ → List ℕ → List ℕ → List ℕ → State
seen_claim frames accounts limits parents words queue list addresses states used =
    on_disk (λ d. set_accounts accounts (set_limits limits (set_parents parents d)))
    (on_core (λ c. set_frames frames (set_words words (set_free_queue queue (set_removal_list list c)))) (on_held (λ h. set_addresses addresses (set_states states h)) (set_used used no_state)))

-- .. as it is passed them
abbrev pub entered_claim : List Frame → List ℕ → List ℕ → List ℕ → List ℕ → List ℕ → List ℕ → List ℕ → List ℕ → List ℕ → State
entered_claim frames accounts limits parents words queue list addresses states used =
    seen_claim frames accounts limits parents words queue list addresses states used

-- ── truncate ──
abbrev pub truncate : ℕ → ℕ → Event
truncate s k = Event.Writeback (Writeback.Truncate s k)

abbrev pub seen_truncate : List Frame → List ℕ → List ℕ → List ℕ → List ℕ → List ℕ → List ℕ → List ℕ → List ℕ → List ℕ → List ℕ → State
seen_truncate frames numbers accounts limits parents queue list addresses states active used =
    on_disk (λ d. set_numbers numbers (set_accounts accounts (set_limits limits (set_parents parents d))))
    (on_core (λ c. set_frames frames (set_free_queue queue (set_removal_list list c))) (on_held (λ h. set_addresses addresses (set_states states h)) (on_slots (set_active active) (set_used used no_state))))

-- .. as it is passed them,
abbrev pub entered_truncate : List Frame → List ℕ → List ℕ → List ℕ → List ℕ → List ℕ → List ℕ → List ℕ → List ℕ → List ℕ → List ℕ → State
entered_truncate frames numbers accounts limits parents queue list addresses states active used =
    seen_truncate frames numbers accounts limits parents queue list addresses states active used

-- and as its questions are
abbrev pub asked_truncate : List Frame → List ℕ → List ℕ → State
asked_truncate frames numbers active = on_disk (set_numbers numbers) (on_core (set_frames frames) (on_slots (set_active active) no_state))

-- ── update ──
abbrev pub update : ℕ → Event
update s = Event.Writeback (Writeback.Update s)

abbrev pub seen_update : List Frame → List ℕ → List ℕ → List ℕ → List ℕ → List ℕ → List ℕ → List ℕ → State
seen_update frames numbers addresses states owners active updating images =
    on_disk (set_numbers numbers)
    (on_core (set_frames frames) (on_held (λ h. set_addresses addresses (set_states states (set_owners owners h))) (on_slots (λ a. set_active active (set_updating updating (set_images images a))) no_state)))

-- .. as it is passed them,
abbrev pub entered_update : List Frame → List ℕ → List ℕ → List ℕ → List ℕ → List ℕ → List ℕ → List ℕ → State
entered_update frames numbers addresses states owners active updating images =
    seen_update frames numbers addresses states owners active updating images

-- and as its questions are
abbrev pub asked_update : List ℕ → List ℕ → List ℕ → State
asked_update numbers active updating = on_disk (set_numbers numbers) (on_slots (λ a. set_active active (set_updating updating a)) no_state)

-- ── page done ──
abbrev pub page_done : ℕ → ℕ → Event
page_done f good = Event.Writeback (Writeback.PageDone f good)

abbrev pub seen_page_done : List Frame → List ℕ → List ℕ → List ℕ → List ℕ → List ℕ → List ℕ → State
seen_page_done frames records words queue list addresses states =
    on_disk (set_records records)
    (on_core (λ c. set_frames frames (set_words words (set_free_queue queue (set_removal_list list c)))) (on_held (λ h. set_addresses addresses (set_states states h)) no_state))

-- .. as it is passed them,
abbrev pub entered_page_done : List Frame → List ℕ → List ℕ → List ℕ → List ℕ → List ℕ → List ℕ → State
entered_page_done frames records words queue list addresses states =
    seen_page_done frames records words queue list addresses states

-- and as its questions are
abbrev pub asked_page_done : List Frame → State
asked_page_done frames = on_core (set_frames frames) no_state

-- ── map done ──
abbrev pub map_done : ℕ → ℕ → Event
map_done s good = Event.Writeback (Writeback.MapDone s good)

-- the code is not passed the pool: what it leaves of it is said of any
abbrev pub seen_map_done : Pool → List ℕ → List ℕ → List ℕ → List ℕ → List ℕ → List ℕ → List ℕ → List ℕ → State
seen_map_done pool numbers maps states owners map active updating images =
    on_disk (λ d. set_numbers numbers (set_maps maps d))
    (on_held (λ h. set_states states (set_owners owners (set_free_map map (set_hand pool.hand (set_free pool.free h))))) (on_slots (λ a. set_active active (set_updating updating (set_images images a))) no_state))

-- .. as it is passed them,
abbrev pub entered_map_done : Pool → List ℕ → List ℕ → List ℕ → List ℕ → List ℕ → List ℕ → List ℕ → List ℕ → State
entered_map_done pool numbers maps states owners map active updating images =
    seen_map_done pool numbers maps states owners map active updating images

-- and as its questions are
abbrev pub asked_map_done : List ℕ → List ℕ → List ℕ → State
asked_map_done numbers active updating = on_disk (set_numbers numbers) (on_slots (λ a. set_active active (set_updating updating a)) no_state)
