-- The events that free frames and records, or move pages and maps to the disk: the state once each is carried out.
use Rattle.std.specs.Prelude.{Bool, false, not, ◌&&◌, ◌||◌, List, [], ◌∷◌, ◌++◌, map, ℕ, zero, suc, pred, eqb, leb, length, set}
use Rattle.tables.specs.Base.{if, all, those, tab}
use Rattle.tables.specs.Queue.{members, packed, without, push_front, push_back}
use Rattle.tables.specs.Rule.{Rule, same, non, ◌and◌, ◌or◌, some, names, test}
use Rattle.tables.specs.Store.{store}
use Rattle.model.specs.declared.sizes.Sizes.{Sizes}
use Rattle.model.specs.declared.frame.Frame.{Frame}
use Rattle.model.specs.Lines.{FREE, NULLED, LIVE, RELEASED, LEAVING}
use Rattle.model.specs.State.{Disk, Slots, State, files, frames, NONE, READING, WRITING, no_frame, frame_at, all_pages, page_of, framed}
use Rattle.model.specs.Setters.{on_disk, on_core, on_held, on_slots, set_records, set_maps, set_frames, set_words, set_free_queue, set_removal_list, set_addresses, set_states, set_owners, set_updating, set_images, set_used_switch, set_modified, set_initial, set_transfer, counted}
use Rattle.model.specs.Parts.{of_slot, from_page, set_part, word_at, frame_of}
use Rattle.model.specs.Pages.{on_frame, fresh}
use Rattle.model.specs.Questions.{would_store}

-- ── claim ──
-- the looks of a claim: how many, the frame taken, the frames and the list then
pub record Looked : Type 0 where
  pub looks : ℕ
  pub taken : ℕ
  pub frames : List Frame
  pub list : List ℕ

-- initial or used is on
abbrev pub warm : Frame → Bool
warm g = eqb g.initial 1 || eqb g.used 1

abbrev pub cooled : Frame → Frame
cooled g = set_used_switch 0 (set_initial 0 g)

-- Looks at the first list entry. Initial on: initial and used go off, entry to the end. Else used on: off, to the end. Else it is taken off.
-- (At most so many looks as the first number says, after n looks so far.)
unfoldable pub look : ℕ → ℕ → List Frame → List ℕ → Looked
look zero n fs xs = record { looks = n; taken = 0; frames = fs; list = xs }
look (suc more) n fs [] = record { looks = n; taken = 0; frames = fs; list = [] }
look (suc more) n fs (f ∷ xs) =
    let again = look more (suc n) (set fs f (cooled (frame_at fs f))) (xs ++ f ∷ []) in
    if (warm (frame_at fs f)) again (record { looks = suc n; taken = f; frames = fs; list = xs })

module _ (z : Sizes) (st : State) where
  -- The result is the number of looks, at most list length + 1.
  unfoldable pub looking : Looked
  looking = let list = members st.memory.core.removal_list in look (suc (length list)) 0 st.memory.core.frames list

  -- all words of the frame are zero
  unfoldable pub zeros : ℕ → Bool
  zeros f = all z.words λ w. eqb (word_at z st.memory.core.words f w) 0

  -- the record of the page in a frame
  abbrev pub record_in : ℕ → ℕ
  record_in f = pred ((files st).address (pred ((frames st).frame f).page))

  -- the frames and the list as the looks leave them
  abbrev pub looked : State
  looked = on_core (λ c. set_frames looking.frames (set_removal_list (packed (length c.removal_list) looking.list) c)) st

-- A frame freed loses its page and switches; its words stay. It joins the free queue's end.
unfoldable pub free_frame : ℕ → State → State
free_frame f st = on_core (λ c. set_free_queue (push_back c.free_queue f) (on_frame f (λ g. no_frame) c)) st

module _ (z : Sizes) (st : State) where
  -- a write begins with this claim: the entry taken is modified, and not all words are zero
  unfoldable pub begins_write : Bool
  begins_write = let f = (looking z st).taken in if (eqb ((frames st).frame f).modified 1) (not (zeros z st f)) false

  -- An entry taken: if unmodified, or all words zero, the frame joins the free queue's end, and its address becomes nulled if it was modified.
  -- Otherwise a write begins, modified staying on.
  unfoldable pub claim : State
  claim =
      let f = (looking z st).taken in let g = (frames st).frame f in
      counted z
      (if begins_write (on_core (λ c. on_frame f (set_transfer WRITING) c) (looked z st))
      (if (eqb g.modified 1) (free_frame f (on_held (λ h. set_states (set h.states (record_in z st f) NULLED) h) (looked z st)))
      (free_frame f (looked z st))))

  -- ── truncate ──
  -- the frame's page is cut off
  abbrev pub cut_frame : ℕ → ℕ → ℕ → Rule
  cut_frame s k f = names ((frames st).frame f).page λ i. from_page z s k i

  -- the frames of the pages from k up, in page order
  unfoldable pub cut_frames : ℕ → ℕ → List ℕ
  cut_frames s k = map (λ p. frame_of z (frames st) (page_of z s p)) (those z.pages (λ p. leb k p && test (framed z (frames st) (page_of z s p))) 0)

  -- the record's page is cut off
  abbrev pub cut_record : ℕ → ℕ → ℕ → Rule
  cut_record s k r = some (all_pages z) λ i. from_page z s k i and same ((files st).address i) (suc r)

  -- Truncate to k pages (0 to N): pages from k up become zeros, their records released, their frames freed in page order.
  unfoldable pub truncate : ℕ → ℕ → State
  truncate s k = counted z
      (on_held (λ h. set_addresses (store h.addresses (from_page z s k) (λ i. 0)) (set_states (store h.states (cut_record s k) (λ r. RELEASED)) h))
      (on_core
      (λ c. set_free_queue (packed (length c.free_queue) (members c.free_queue ++ cut_frames s k))
      (set_removal_list (packed (length c.removal_list) (without (λ f. test (cut_frame s k f)) (members c.removal_list)))
      (set_frames (tab (length c.frames) (λ f. if (test (cut_frame s k f)) no_frame (frame_at c.frames f)) 0) c))) st))

  -- ── update ──
  -- a page of the slot that is in no frame, its record nulled
  abbrev pub leaving_page : ℕ → ℕ → Rule
  leaving_page s i = of_slot z s i and (names ((files st).address i) λ r. same ((files st).state r) NULLED) and non (framed z (frames st) i)

  -- Nulled records of pages in no frame, and released ones of the slot
  abbrev pub leaving_record : ℕ → ℕ → Rule
  leaving_record s r = (some (all_pages z) λ i. leaving_page s i and same ((files st).address i) (suc r)) or same ((files st).owner r) s and same ((files st).state r) RELEASED

  -- Update: the image lists live addresses, others 0. Nulled records of pages in no frame, and released ones of the slot, become leaving; those pages have no address then.
  unfoldable pub update : ℕ → State
  update s = counted z
      (on_slots (λ a. set_updating (set a.updating s 1) (set_images (store a.images (of_slot z s) (would_store z st)) a))
      (on_held (λ h. set_addresses (store h.addresses (leaving_page s) (λ i. 0)) (set_states (store h.states (leaving_record s) (λ r. LEAVING)) h)) st))

  -- ── page done ──
  -- Good read: frame takes the record's words, goes to the list's front, initial on, used and modified off.
  unfoldable pub read_good : ℕ → State
  read_good f = on_core (λ c. set_removal_list (push_front c.removal_list f)
      (on_frame f (λ g. fresh (pred g.page)) (set_words (set_part z f (word_at z st.disk.records (record_in z st f)) c.words) c))) st

  -- Failed read: frame to the free queue's end.
  unfoldable pub read_failed : ℕ → State
  read_failed f = free_frame f st

  -- the record of a frame's page takes the frame's words: a disk store
  unfoldable pub store_frame : ℕ → Disk → Disk
  store_frame f d = set_records (set_part z (record_in z st f) (word_at z st.memory.core.words f) d.records) d

  -- Good write: record takes the words, is live, frame to the free queue's end.
  unfoldable pub write_good : ℕ → State
  write_good f = free_frame f (on_held (λ h. set_states (set h.states (record_in z st f) LIVE) h) (on_disk (store_frame f) st))

  -- Failed write: list's end, modified on, initial off. (02) A failed write leaves used as those reads left it.
  unfoldable pub write_failed : ℕ → State
  write_failed f = on_core (λ c. set_removal_list (push_back c.removal_list f) (on_frame f (λ g. set_transfer NONE (set_modified 1 (set_initial 0 g))) c)) st

  unfoldable pub page_done : ℕ → ℕ → State
  page_done f good = counted z
      (if (eqb ((frames st).frame f).transfer READING) (if (eqb good 1) (read_good f) (read_failed f))
      (if (eqb good 1) (write_good f) (write_failed f)))

  -- ── map done ──
  -- the slot's leaving records
  abbrev pub leaver : ℕ → ℕ → Rule
  leaver s r = same ((files st).state r) LEAVING and same ((files st).owner r) s

  -- the image is stored: a disk store
  unfoldable pub store_image : ℕ → Disk → Disk
  store_image s d = set_maps (store d.maps (of_slot z s) (files st).image) d

  -- Either way the image is zero then and the update over.
  unfoldable pub update_over : ℕ → Slots → Slots
  update_over s a = set_updating (set a.updating s 0) (set_images (store a.images (of_slot z s) (λ i. 0)) a)

  -- Good: the image is stored, the slot's leaving records become free (and of no slot). Failed: they become released.
  unfoldable pub map_done : ℕ → ℕ → State
  map_done s good = counted z
      (if (eqb good 1)
      (on_disk (store_image s) (on_slots (update_over s) (on_held (λ h. set_states (store h.states (leaver s) (λ r. FREE)) (set_owners (store h.owners (leaver s) (λ r. 0)) h)) st)))
      (on_slots (update_over s) (on_held (λ h. set_states (store h.states (leaver s) (λ r. RELEASED)) h) st)))
