-- What is refused, by computation: questions 12 and 16, and for each rule of question 2 but the chip's (ChipRefusals) tables that no other rule refuses, where there are any.
use Rattle.std.specs.Prelude.{◌≡◌, refl, List, [], ◌∷◌, ◌++◌, ℕ}
use Rattle.model.specs.declared.sizes.Sizes.{Sizes}
use Rattle.model.specs.declared.event.Account.TheVariants.{Limit}
use Rattle.model.specs.declared.event.Event.TheVariants as Event
use Rattle.model.specs.State.{State, READING, WRITING}
use Rattle.model.specs.Setters.{on_disk, on_core, on_held, on_slots, set_records, set_numbers, set_accounts, set_maps, set_parents, set_words, set_free_queue, set_removal_list, set_addresses, set_states, set_owners, set_free_map, set_hand, set_free, set_active, set_updating, set_images, set_used, set_used_switch, set_modified, set_wired, set_initial, set_transfer, counted}
use Rattle.model.specs.Pages.{on_frame, fresh}
use Rattle.model.specs.Step
use Rattle.edges.specs.Lists.{create, activate, deactivate, fault, write, wire, claim, truncate, update, page_done, map_done, restart, small, says, leaves}
use Rattle.edges.specs.Edges.{opened, listing}
use Rattle.edges.specs.RuleList.{of_disk, of_all, says_no}

-- ── the tables ──
-- the event program's sizes, with a second account
abbrev pub two : Sizes
two = record { words = 2; records = 4; frames = 2; slots = 2; pages = 3; accounts = 2; chip = 2 }

-- the answer to a limit, and the rules that say no
unfoldable pub judged : State → List ℕ
unfolding says_no
judged st = (Step.step two st (Event.Account (Limit 0 1))).answer.refusal ∷ says_no 1 (of_all two st)

-- the answer to a restart, and the disk rules that say no
unfoldable pub found : State → List ℕ
unfolding says_no
found st = (Step.restart two st).answer.refusal ∷ says_no 1 (of_disk two st)

-- nothing but a restart; a design, at rest and active; its page 0 in frame 0, and page 1 in frame 1
abbrev pub empty : State
empty = leaves two (restart ∷ [])

abbrev filled : State
filled = leaves two (restart ∷ create 0 0 7 ∷ [])

abbrev active : State
active = leaves two (restart ∷ create 0 0 7 ∷ activate 0 ∷ [])

abbrev served : State
served = leaves two (opened 2)

abbrev full : State
full = leaves two (opened 2 ++ fault 0 1 ∷ [])

-- page 0 listed; at rest; in a frame again
abbrev pub listed : State
listed = leaves two (listing ++ restart ∷ activate 0 ∷ [])

abbrev pub resting : State
resting = leaves two (listing ++ restart ∷ [])

abbrev reread : State
reread = leaves two (listing ++ fault 0 0 ∷ [])

-- its record released
abbrev released : State
released = leaves two (listing ++ truncate 0 0 ∷ [])

-- an update under way; its page truncated since, listed already and not yet listed
abbrev begun : State
begun = leaves two (listing ++ update 0 ∷ [])

abbrev cut_off : State
cut_off = leaves two (listing ++ update 0 ∷ truncate 0 0 ∷ [])

abbrev unstored : State
unstored = leaves two (opened 2 ++ write 0 0 1 9 ∷ claim ∷ page_done 0 1 ∷ update 0 ∷ truncate 0 0 ∷ [])

-- ── the hurts ──
-- the entries of pages 0 and 1, the others 0
abbrev entries : ℕ → ℕ → List ℕ
entries a b = a ∷ b ∷ 0 ∷ 0 ∷ 0 ∷ 0 ∷ []

-- the counts agree with the tables
abbrev agree : State → State
agree = counted two

-- page 0 is put into frame 0
abbrev seated : State → State
seated = on_core λ c. set_free_queue (2 ∷ 0 ∷ []) (set_removal_list (1 ∷ 0 ∷ []) (on_frame 0 (λ g. fresh 0) c))

-- frame 0 leaves the removal list, in transfer
abbrev moving : ℕ → State → State
moving t = on_core λ c. set_removal_list (0 ∷ 0 ∷ []) (on_frame 0 (set_transfer t) c)

pub record Refused : Type 0 where
  -- 12. The map equals what an update now would store, and a record of the slot is released, or nulled; or the map does not.
  keeps_released : says small (opened 2 ++ truncate 0 0 ∷ deactivate 0 ∷ []) ≡ 12 ∷ 0 ∷ []
  keeps_nulled : says small (opened 2 ++ claim ∷ deactivate 0 ∷ []) ≡ 12 ∷ 0 ∷ []
  unlisted : says small (opened 2 ++ write 0 0 1 9 ∷ claim ∷ page_done 0 1 ∷ deactivate 0 ∷ []) ≡ 12 ∷ 0 ∷ []
  settled : says small (opened 2 ++ truncate 0 0 ∷ update 0 ∷ map_done 0 1 ∷ deactivate 0 ∷ []) ≡ 0 ∷ 0 ∷ []
  -- 16. The page is wired; a truncate to the pages below it does not concern it.
  wired_wire : says small (opened 2 ++ wire 0 0 ∷ wire 0 0 ∷ []) ≡ 16 ∷ 0 ∷ []
  wired_truncate : says small (opened 2 ++ wire 0 0 ∷ truncate 0 0 ∷ []) ≡ 16 ∷ 0 ∷ []
  wired_below : says small (opened 2 ++ wire 0 0 ∷ truncate 0 1 ∷ []) ≡ 0 ∷ 0 ∷ []
  -- 2. As reached, no rule says no.
  empty_right : judged empty ≡ 0 ∷ []
  filled_right : judged filled ≡ 0 ∷ []
  active_right : judged active ≡ 0 ∷ []
  served_right : judged served ≡ 0 ∷ []
  full_right : judged full ≡ 0 ∷ []
  listed_right : judged listed ≡ 0 ∷ []
  resting_right : judged resting ≡ 0 ∷ []
  begun_right : judged begun ≡ 0 ∷ []
  cut_off_right : judged cut_off ≡ 0 ∷ []
  unstored_right : judged unstored ≡ 0 ∷ []
  released_right : judged released ≡ 0 ∷ []
  reread_right : judged reread ≡ 0 ∷ []
  -- The disk rules. An entry past R is refused with the rule on what a design at rest, or an active one, lists (Implied.map_fit_holds). A restart asks the disk rules only.
  empty_account : judged (on_disk (set_accounts (1 ∷ 0 ∷ [])) empty) ≡ 2 ∷ 1 ∷ []
  empty_map : judged (on_disk (set_numbers (0 ∷ 0 ∷ [])) resting) ≡ 2 ∷ 2 ∷ []
  map_fit_resting : judged (agree (on_disk (set_maps (entries 5 0)) filled)) ≡ 2 ∷ 3 ∷ 17 ∷ []
  map_fit_active : judged (on_disk (set_maps (entries 5 0)) active) ≡ 2 ∷ 3 ∷ 19 ∷ []
  map_once : judged (agree (on_disk (set_maps (entries 1 1)) resting)) ≡ 2 ∷ 4 ∷ []
  number_once : judged (on_disk (set_numbers (7 ∷ 7 ∷ [])) filled) ≡ 2 ∷ 5 ∷ []
  account_fit : judged (on_disk (set_accounts (2 ∷ 0 ∷ [])) filled) ≡ 2 ∷ 6 ∷ []
  parent_lower : judged (on_disk (set_parents (0 ∷ 1 ∷ [])) filled) ≡ 2 ∷ 7 ∷ []
  -- (account 0's entry is never looked at)
  parent_lower_first : judged (on_disk (set_parents (9 ∷ 0 ∷ [])) filled) ≡ 0 ∷ []
  empty_account_found : found (on_disk (set_accounts (1 ∷ 0 ∷ [])) empty) ≡ 2 ∷ 1 ∷ []
  empty_map_found : found (on_disk (set_numbers (0 ∷ 0 ∷ [])) resting) ≡ 2 ∷ 2 ∷ []
  map_fit_found : found (on_disk (set_maps (entries 5 0)) filled) ≡ 2 ∷ 3 ∷ []
  map_once_found : found (on_disk (set_maps (entries 1 1)) resting) ≡ 2 ∷ 4 ∷ []
  number_once_found : found (on_disk (set_numbers (7 ∷ 7 ∷ [])) filled) ≡ 2 ∷ 5 ∷ []
  account_fit_found : found (on_disk (set_accounts (2 ∷ 0 ∷ [])) filled) ≡ 2 ∷ 6 ∷ []
  parent_lower_found : found (on_disk (set_parents (0 ∷ 1 ∷ [])) filled) ≡ 2 ∷ 7 ∷ []
  -- The ranges. An address past R is refused with the rule on what a page holds (address_fit_holds), an image entry past R with the rule on what an image lists (image_fit_holds).
  address_fit : judged (on_held (set_addresses (entries 5 0)) active) ≡ 2 ∷ 8 ∷ 15 ∷ []
  image_fit : judged (on_slots (set_images (entries 1 5)) begun) ≡ 2 ∷ 9 ∷ 20 ∷ []
  state_fit : judged (agree (on_held (set_states (6 ∷ 0 ∷ 0 ∷ 0 ∷ [])) filled)) ≡ 2 ∷ 10 ∷ []
  owner_fit : judged (on_held (set_owners (2 ∷ 0 ∷ 0 ∷ 0 ∷ [])) filled) ≡ 2 ∷ 11 ∷ []
  active_fit : judged (on_slots (set_active (2 ∷ 0 ∷ [])) filled) ≡ 2 ∷ 12 ∷ []
  updating_fit : judged (on_slots (set_updating (2 ∷ 0 ∷ [])) active) ≡ 2 ∷ 13 ∷ []
  -- Pages, records and slots.
  held_once : judged (agree (on_held (set_addresses (entries 1 1)) listed)) ≡ 2 ∷ 14 ∷ []
  held_slot : judged (on_held (set_owners (1 ∷ 0 ∷ 0 ∷ 0 ∷ [])) listed) ≡ 2 ∷ 15 ∷ []
  held_state : judged (agree (on_held (set_states (4 ∷ 0 ∷ 0 ∷ 0 ∷ [])) listed)) ≡ 2 ∷ 15 ∷ []
  held_by_nulled : judged (agree (on_held (set_states (2 ∷ 0 ∷ 0 ∷ 0 ∷ [])) filled)) ≡ 2 ∷ 16 ∷ []
  held_by_live : judged (agree (on_held (set_states (3 ∷ 0 ∷ 0 ∷ 0 ∷ [])) filled)) ≡ 2 ∷ 16 ∷ []
  -- (a record that a design at rest lists, of another slot, or free: the next fault would give it to another design)
  filed_slot : judged (on_held (set_owners (1 ∷ 0 ∷ 0 ∷ 0 ∷ [])) resting) ≡ 2 ∷ 17 ∷ []
  filed_state_holds : judged (agree (on_held (set_states (0 ∷ 0 ∷ 0 ∷ 0 ∷ [])) resting)) ≡ 2 ∷ 17 ∷ []
  filed_by : judged (agree (on_held (set_states (1 ∷ 0 ∷ 0 ∷ 0 ∷ [])) filled)) ≡ 2 ∷ 18 ∷ []
  mapped_free : judged (on_disk (set_maps (entries 1 0)) active) ≡ 2 ∷ 19 ∷ []
  mapped_slot : judged (on_held (set_owners (1 ∷ 0 ∷ 0 ∷ 0 ∷ [])) released) ≡ 2 ∷ 19 ∷ []
  mapped_page : judged (agree (on_held (λ h. set_addresses (entries 0 1) (set_states (2 ∷ 0 ∷ 0 ∷ 0 ∷ []) h)) released)) ≡ 2 ∷ 19 ∷ []
  imaged_free : judged (on_slots (set_images (entries 1 2)) begun) ≡ 2 ∷ 20 ∷ []
  imaged_leaving : judged (on_held (set_states (5 ∷ 0 ∷ 0 ∷ 0 ∷ [])) cut_off) ≡ 2 ∷ 20 ∷ []
  imaged_slot : judged (on_held (set_owners (1 ∷ 0 ∷ 0 ∷ 0 ∷ [])) unstored) ≡ 2 ∷ 20 ∷ []
  image_once : judged (on_slots (set_images (entries 1 1)) cut_off) ≡ 2 ∷ 21 ∷ []
  image_zero : judged (on_slots (set_images (entries 1 0)) listed) ≡ 2 ∷ 22 ∷ []
  leaving_begun : judged (agree (on_held (set_states (5 ∷ 0 ∷ 0 ∷ 0 ∷ [])) active)) ≡ 2 ∷ 23 ∷ []
  active_filled : judged (on_slots (set_active (1 ∷ 0 ∷ [])) empty) ≡ 2 ∷ 24 ∷ []
  address_active : judged (agree (on_held (λ h. set_addresses (entries 1 0) (set_states (2 ∷ 0 ∷ 0 ∷ 0 ∷ []) h)) filled)) ≡ 2 ∷ 25 ∷ []
  update_active : judged (on_slots (set_updating (1 ∷ 0 ∷ [])) filled) ≡ 2 ∷ 26 ∷ []
  -- The queues: an entry after a 0, and one past F.
  free_queue_gap : judged (on_core (set_free_queue (0 ∷ 1 ∷ [])) full) ≡ 2 ∷ 27 ∷ []
  free_queue_past : judged (on_core (set_free_queue (3 ∷ 0 ∷ [])) full) ≡ 2 ∷ 27 ∷ []
  removal_list_gap : judged (on_core (set_removal_list (0 ∷ 1 ∷ [])) empty) ≡ 2 ∷ 28 ∷ []
  removal_list_past : judged (on_core (set_removal_list (3 ∷ 0 ∷ [])) empty) ≡ 2 ∷ 28 ∷ []
  -- The frames.
  frame_fit_used : judged (on_core (on_frame 0 (set_used_switch 2)) served) ≡ 2 ∷ 29 ∷ []
  frame_fit_modified : judged (on_core (on_frame 0 (set_modified 2)) served) ≡ 2 ∷ 29 ∷ []
  frame_fit_initial : judged (on_core (on_frame 0 (set_initial 2)) served) ≡ 2 ∷ 29 ∷ []
  frame_fit_transfer : judged (moving 3 served) ≡ 2 ∷ 29 ∷ []
  in_one_place_wired : judged (on_core (on_frame 0 (set_wired 1)) served) ≡ 2 ∷ 30 ∷ []
  in_one_place_both : judged (on_core (set_removal_list (1 ∷ 0 ∷ [])) empty) ≡ 2 ∷ 30 ∷ []
  in_one_place_none : judged (on_core (set_removal_list (0 ∷ 0 ∷ [])) served) ≡ 2 ∷ 30 ∷ []
  -- An inactive slot has no frame: one of the two says no too from which this follows (frame_active_holds).
  frame_active_bare : judged (seated filled) ≡ 2 ∷ 31 ∷ 33 ∷ []
  frame_active_held : judged (agree (on_held (λ h. set_addresses (entries 1 0) (set_states (2 ∷ 0 ∷ 0 ∷ 0 ∷ []) h)) (seated filled))) ≡ 2 ∷ 25 ∷ 31 ∷ []
  framed_once : judged (on_core (λ c. set_free_queue (0 ∷ 0 ∷ []) (set_removal_list (1 ∷ 2 ∷ []) (on_frame 1 (λ g. fresh 0) c))) served) ≡ 2 ∷ 32 ∷ []
  framed_held_none : judged (agree (seated active)) ≡ 2 ∷ 33 ∷ []
  framed_held_reading : judged (moving READING served) ≡ 2 ∷ 33 ∷ []
  writing_modified : judged (moving WRITING served) ≡ 2 ∷ 34 ∷ []
  free_frame_page : judged (on_core (λ c. set_words (0 ∷ 9 ∷ 0 ∷ 0 ∷ []) (on_frame 0 (λ g. set_initial 0 (fresh 0)) c)) listed) ≡ 2 ∷ 35 ∷ []
  free_frame_used : judged (on_core (on_frame 0 (set_used_switch 1)) empty) ≡ 2 ∷ 35 ∷ []
  free_frame_modified : judged (on_core (on_frame 0 (set_modified 1)) empty) ≡ 2 ∷ 35 ∷ []
  free_frame_initial : judged (on_core (on_frame 0 (set_initial 1)) empty) ≡ 2 ∷ 35 ∷ []
  busy_frame : judged (on_core (λ c. set_free_queue (2 ∷ 0 ∷ []) (set_removal_list (1 ∷ 0 ∷ []) c)) empty) ≡ 2 ∷ 36 ∷ []
  clean_nulled : judged (on_core (set_words (1 ∷ 0 ∷ 0 ∷ 0 ∷ [])) served) ≡ 2 ∷ 37 ∷ []
  clean_live : judged (on_core (set_words (0 ∷ 9 ∷ 0 ∷ 8 ∷ [])) reread) ≡ 2 ∷ 37 ∷ []
  -- The hand and the counts.
  hand : judged (on_held (set_hand 4) empty) ≡ 2 ∷ 38 ∷ []
  free_count_holds : judged (on_held (set_free 3) empty) ≡ 2 ∷ 39 ∷ []
  free_map : judged (on_held (set_free_map (7 ∷ [])) empty) ≡ 2 ∷ 40 ∷ []
  free_map_past : judged (on_held (set_free_map (31 ∷ [])) empty) ≡ 2 ∷ 40 ∷ []
  used_count : judged (set_used (1 ∷ 0 ∷ []) empty) ≡ 2 ∷ 41 ∷ []

pub refused : Refused
unfolding says leaves judged found
refused = record {
  keeps_released = refl;
  keeps_nulled = refl;
  unlisted = refl;
  settled = refl;
  wired_wire = refl;
  wired_truncate = refl;
  wired_below = refl;
  empty_right = refl;
  filled_right = refl;
  active_right = refl;
  served_right = refl;
  full_right = refl;
  listed_right = refl;
  resting_right = refl;
  begun_right = refl;
  cut_off_right = refl;
  unstored_right = refl;
  released_right = refl;
  reread_right = refl;
  empty_account = refl;
  empty_map = refl;
  map_fit_resting = refl;
  map_fit_active = refl;
  map_once = refl;
  number_once = refl;
  account_fit = refl;
  parent_lower = refl;
  parent_lower_first = refl;
  empty_account_found = refl;
  empty_map_found = refl;
  map_fit_found = refl;
  map_once_found = refl;
  number_once_found = refl;
  account_fit_found = refl;
  parent_lower_found = refl;
  address_fit = refl;
  image_fit = refl;
  state_fit = refl;
  owner_fit = refl;
  active_fit = refl;
  updating_fit = refl;
  held_once = refl;
  held_slot = refl;
  held_state = refl;
  held_by_nulled = refl;
  held_by_live = refl;
  filed_slot = refl;
  filed_state_holds = refl;
  filed_by = refl;
  mapped_free = refl;
  mapped_slot = refl;
  mapped_page = refl;
  imaged_free = refl;
  imaged_leaving = refl;
  imaged_slot = refl;
  image_once = refl;
  image_zero = refl;
  leaving_begun = refl;
  active_filled = refl;
  address_active = refl;
  update_active = refl;
  free_queue_gap = refl;
  free_queue_past = refl;
  removal_list_gap = refl;
  removal_list_past = refl;
  frame_fit_used = refl;
  frame_fit_modified = refl;
  frame_fit_initial = refl;
  frame_fit_transfer = refl;
  in_one_place_wired = refl;
  in_one_place_both = refl;
  in_one_place_none = refl;
  frame_active_bare = refl;
  frame_active_held = refl;
  framed_once = refl;
  framed_held_none = refl;
  framed_held_reading = refl;
  writing_modified = refl;
  free_frame_page = refl;
  free_frame_used = refl;
  free_frame_modified = refl;
  free_frame_initial = refl;
  busy_frame = refl;
  clean_nulled = refl;
  clean_live = refl;
  hand = refl;
  free_count_holds = refl;
  free_map = refl;
  free_map_past = refl;
  used_count = refl;
}
