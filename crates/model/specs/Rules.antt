-- Question 2: the disk rules and the memory rules, each under paper 01's sentence, as data that is tested and stated (Rule).
use Rattle.std.specs.Prelude.{ℕ, suc, ◌+◌, ◌*◌, eqb}
use Rattle.tables.specs.Base.{if, at}
use Rattle.tables.specs.Queue.{queue, queue_of}
use Rattle.tables.specs.Rule.{Rule, same, below, non, ◌and◌, ◌or◌, ◌then◌, each, some, named}
use Rattle.model.specs.declared.sizes.Sizes.{Sizes}
use Rattle.model.specs.Lines.{FILED, NULLED, LIVE, RELEASED, LEAVING}
use Rattle.model.specs.State.{State, Files, Frames, Chip, files, frames, NONE, READING, WRITING, LINE, all_pages, slot_of, map_words, live, used_of, free_count, free_word}

-- no number is named by two of the first n entries
abbrev pub once : ℕ → (ℕ → ℕ) → Rule
once n entry = each n λ i. each n λ j. named (entry i) λ r. same (entry j) (suc r) then same i j

-- the first n entries name numbers below m
abbrev pub fit : ℕ → ℕ → (ℕ → ℕ) → Rule
fit n m entry = each n λ i. named (entry i) λ r. below r m

-- of the first n accounts each but 0 has a parent with a lower number
abbrev pub lower : ℕ → (ℕ → ℕ) → Rule
lower n parent = each n λ a. below 0 a then below (parent a) a

-- a design's slot is active
abbrev pub is_active : Files → ℕ → Rule
is_active v s = same (v.active s) 1

module _ (z : Sizes) (v : Files) where
  -- ── disk rules ──
  -- an empty slot has account 0
  abbrev pub empty_account : Rule
  empty_account = each z.slots λ s. same (v.number s) 0 then same (v.account s) 0

  -- and a zero map;
  abbrev pub empty_map : Rule
  empty_map = each (all_pages z) λ i. same (v.number (slot_of z i)) 0 then same (v.map i) 0

  -- an entry is at most R;
  abbrev pub map_fit : Rule
  map_fit = fit (all_pages z) z.records v.map

  -- no record stands in two entries;
  abbrev pub map_once : Rule
  map_once = once (all_pages z) v.map

  -- no number stands in two (filled) slots;
  abbrev pub number_once : Rule
  number_once = once z.slots v.number

  -- an account is below Q.
  abbrev pub account_fit : Rule
  account_fit = each z.slots λ s. below (v.account s) z.accounts

  -- Each account but 0 has a parent with a lower number.
  abbrev pub parent_lower : Rule
  parent_lower = lower z.accounts v.parent

  -- ── memory rules: pages, records and slots ──
  -- an address and an image entry is at most R, a state is one of six, an owner is below S, a switch is 0 or 1;
  abbrev pub address_fit : Rule
  address_fit = fit (all_pages z) z.records v.address

  abbrev pub image_fit : Rule
  image_fit = fit (all_pages z) z.records v.image

  abbrev pub state_fit : Rule
  state_fit = each z.records λ r. below (v.state r) 6

  abbrev pub owner_fit : Rule
  owner_fit = each z.records λ r. below (v.owner r) z.slots

  abbrev pub active_fit : Rule
  active_fit = each z.slots λ s. below (v.active s) 2

  abbrev pub updating_fit : Rule
  updating_fit = each z.slots λ s. below (v.updating s) 2

  -- no two pages hold one record,
  abbrev pub held_once : Rule
  held_once = once (all_pages z) v.address

  -- and each record's state and slot agree with its holder: what a page holds is nulled or live, in the page's slot,
  abbrev pub held : Rule
  held = each (all_pages z) λ i. named (v.address i) λ r. same (v.owner r) (slot_of z i) and (same (v.state r) NULLED or same (v.state r) LIVE)

  -- what is nulled or live is held by a page,
  abbrev pub held_by : Rule
  held_by = each z.records λ r. (same (v.state r) NULLED or same (v.state r) LIVE) then some (all_pages z) λ i. same (v.address i) (suc r)

  -- what an inactive design lists is filed, in that slot,
  abbrev pub filed : Rule
  filed = each (all_pages z) λ i. named (v.map i) λ r. non (is_active v (slot_of z i)) then same (v.owner r) (slot_of z i) and same (v.state r) FILED

  -- what is filed is listed by an inactive design;
  abbrev pub filed_by : Rule
  filed_by = each z.records λ r. same (v.state r) FILED then some (all_pages z) λ i. same (v.map i) (suc r) and non (is_active v (slot_of z i))

  -- a record in an active design's stored map is held by that same page or is that slot's released or leaving record;
  abbrev pub mapped : Rule
  mapped = each (all_pages z) λ i. named (v.map i) λ r. is_active v (slot_of z i) then
      same (v.address i) (suc r) or same (v.owner r) (slot_of z i) and (same (v.state r) RELEASED or same (v.state r) LEAVING)

  -- a record in a begun image is held by that same page or is that slot's released record;
  abbrev pub imaged : Rule
  imaged = each (all_pages z) λ i. named (v.image i) λ r. same (v.address i) (suc r) or same (v.owner r) (slot_of z i) and same (v.state r) RELEASED

  -- no record stands twice in one image;
  abbrev pub image_once : Rule
  image_once = each (all_pages z) λ i. each (all_pages z) λ j. named (v.image i) λ r. same (v.image j) (suc r) then same (slot_of z i) (slot_of z j) then same i j

  -- an image is zero unless its update is under way,
  abbrev pub image_zero : Rule
  image_zero = each (all_pages z) λ i. named (v.image i) λ r. same (v.updating (slot_of z i)) 1

  -- and no record of its slot leaving;
  abbrev pub leaving_begun : Rule
  leaving_begun = each z.records λ r. same (v.state r) LEAVING then same (v.updating (v.owner r)) 1

  -- an active slot is filled,
  abbrev pub active_filled : Rule
  active_filled = each z.slots λ s. is_active v s then below 0 (v.number s)

  -- an inactive one has no address,
  abbrev pub address_active : Rule
  address_active = each (all_pages z) λ i. named (v.address i) λ r. is_active v (slot_of z i)

  -- or update;
  abbrev pub update_active : Rule
  update_active = each z.slots λ s. same (v.updating s) 1 then is_active v s

module _ (z : Sizes) (v : Files) (c : Frames) where
  -- ── memory rules: frames ──
  -- a frame's page is at most S · N, its switches are 0 or 1, its transfer is one of three;
  abbrev pub frame_fit : Rule
  frame_fit = each z.frames λ f. (named (c.frame f).page λ i. below i (all_pages z)) and below (c.frame f).used 2 and below (c.frame f).modified 2
      and below (c.frame f).wired 2 and below (c.frame f).initial 2 and below (c.frame f).transfer 3

  -- each frame is in exactly one of free queue, removal list, wired, in transfer;
  abbrev pub in_one_place : Rule
  in_one_place = each z.frames λ f. same (c.queued f + c.removing f + (c.frame f).wired + if (eqb (c.frame f).transfer NONE) 0 1) 1

  -- an inactive slot has no frame;
  abbrev pub frame_active : Rule
  frame_active = each z.frames λ f. named (c.frame f).page λ i. is_active v (slot_of z i)

  -- no page is in two frames,
  abbrev pub framed_once : Rule
  framed_once = once z.frames (λ f. (c.frame f).page)

  -- and a page in a frame has an address (a reading one a live one);
  abbrev pub framed_held : Rule
  framed_held = each z.frames λ f. named (c.frame f).page λ i. non (same (v.address i) 0) and (same (c.frame f).transfer READING then live v i)

  -- a frame being written is modified;
  abbrev pub writing_modified : Rule
  writing_modified = each z.frames λ f. same (c.frame f).transfer WRITING then same (c.frame f).modified 1

  -- a free frame has no page and no switch on,
  abbrev pub free_frame : Rule
  free_frame = each z.frames λ f. non (same (c.queued f) 0) then same (c.frame f).page 0 and same (c.frame f).used 0 and same (c.frame f).modified 0
      and same (c.frame f).wired 0 and same (c.frame f).initial 0

  -- any other has a page;
  abbrev pub busy_frame : Rule
  busy_frame = each z.frames λ f. same (c.queued f) 0 then non (same (c.frame f).page 0)

  -- an unmodified frame in service (has a page, no transfer) equals its live record, or is zeros if its address is nulled;
  abbrev pub clean : (ℕ → ℕ) → Rule
  clean recordWord = each z.frames λ f. named (c.frame f).page λ i. same (c.frame f).transfer NONE then same (c.frame f).modified 0 then named (v.address i) λ r.
      each z.words λ w. same (c.word (f * z.words + w)) (if (eqb (v.state r) LIVE) (recordWord (r * z.words + w)) 0)

module _ (z : Sizes) (state recordWord : ℕ → ℕ) (k : Chip) where
  -- ── (02) memory rules: the chip ──
  -- the next place is below B;
  abbrev pub next_fit : Rule
  next_fit = below (at k.next 0) z.chip

  -- no record twice;
  abbrev pub copy_once : Rule
  copy_once = once z.chip (at k.copies)

  -- empty places hold zeros;
  abbrev pub copy_empty : Rule
  copy_empty = each z.chip λ b. same (at k.copies b) 0 then each z.words λ w. same (at k.words (b * z.words + w)) 0

  -- each copy is equal to its live record.
  abbrev pub copy_live : Rule
  copy_live = each z.chip λ b. named (at k.copies b) λ r. same (state r) LIVE and each z.words λ w. same (at k.words (b * z.words + w)) (recordWord (r * z.words + w))

-- ── the two sets of rules ──
module _ (z : Sizes) (st : State) where
  abbrev v : Files
  v = files st

  abbrev c : Frames
  c = frames st

  unfoldable pub disk_rules : Rule
  disk_rules = empty_account z v and empty_map z v and map_fit z v and map_once z v and number_once z v and account_fit z v and parent_lower z v

  -- ranges of what memory holds: every value that names something names something that exists
  unfoldable pub range_rules : Rule
  range_rules = address_fit z v and image_fit z v and state_fit z v and owner_fit z v and active_fit z v and updating_fit z v

  unfoldable pub record_rules : Rule
  record_rules = held_once z v and held z v and held_by z v and filed z v and filed_by z v and mapped z v and imaged z v and image_once z v and image_zero z v
      and leaving_begun z v and active_filled z v and address_active z v and update_active z v

  -- the free queue and the removal list are queues of frames
  unfoldable pub queue_rules : Rule
  queue_rules = queue z.frames st.memory.core.free_queue and queue z.frames st.memory.core.removal_list

  unfoldable pub frame_rules : Rule
  frame_rules = frame_fit z v c and in_one_place z v c and frame_active z v c and framed_once z v c and framed_held z v c and writing_modified z v c and free_frame z v c
      and busy_frame z v c and clean z v c (at st.disk.records)

  -- the hand is below R; the free map and count agree with the states; used counts equal their definition.
  unfoldable pub count_rules : Rule
  count_rules = below st.memory.held.pool.hand z.records and same st.memory.held.pool.free (free_count z v.state)
      and (each (map_words z) λ k. same (at st.memory.held.free_map k) (free_word z v.state k)) and (each z.accounts λ q. same (at st.memory.used q) (used_of z v c q))

  -- Question 2 wants the line within the sizes: pages that exist, packed at the front.
  unfoldable pub line_rules : Rule
  line_rules = queue_of LINE (all_pages z) st.memory.line

  -- Question 2 also wants of the chip: ..
  unfoldable pub chip_rules : Rule
  chip_rules = let word = at st.disk.records in let k = st.memory.chip in
      next_fit z v.state word k and copy_once z v.state word k and copy_empty z v.state word k and copy_live z v.state word k

  -- the memory rules of the other tables
  unfoldable pub table_rules : Rule
  table_rules = range_rules and record_rules and queue_rules and frame_rules and count_rules and line_rules

  unfoldable pub memory_rules : Rule
  memory_rules = table_rules and chip_rules

  -- both sets
  unfoldable pub all_rules : Rule
  all_rules = disk_rules and memory_rules
