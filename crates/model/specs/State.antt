-- The tables, as flat lists, exactly what a caller lends; and the look-ups that rules and proofs speak of.
-- Page p of slot s is entry s * N + p of a table of pages; word w of record r is entry r * W + w of the records.
use Rattle.std.specs.Prelude.{◌&&◌, List, ℕ, suc, ◌+◌, ◌*◌, ◌/◌, ltb, eqb, get_or}
use Rattle.tables.specs.Base.{at, if, count}
use Rattle.tables.specs.Bits.{bits}
use Rattle.tables.specs.Queue.{members, times}
use Rattle.tables.specs.Rule.{Rule, same, ◌and◌, ◌or◌, some, names, test}
use Rattle.model.specs.declared.sizes.Sizes.{Sizes}
use Rattle.model.specs.declared.frame.Frame.{Frame}
use Rattle.model.specs.declared.frame.Pool.{Pool}
use Rattle.model.specs.Lines.{FREE, LIVE}
use Rattle.model.specs.Payer

-- Disk part: R records of W words; per slot a unique number (0 = empty slot), an account, and a file map of N entries; per account a limit and a parent (account 0's is never looked at);
-- (02) and the highest number below 2,147,483,648 ever given.
-- Map entry 0 is a page of zeros, else the entry is record number + 1.
pub record Disk : Type 0 where
  pub records : List ℕ
  pub numbers : List ℕ
  pub accounts : List ℕ
  pub maps : List ℕ
  pub limits : List ℕ
  pub parents : List ℕ
  pub highest : List ℕ

-- The memory frames, the frames' words, the free frame queue, the removal list (frame + 1, packed at the front, then 0).
pub record Core : Type 0 where
  pub frames : List Frame
  pub words : List ℕ
  pub free_queue : List ℕ
  pub removal_list : List ℕ

-- Each page's address (0, or record number + 1), each record's state and slot, a free map of one bit a record, the hand and the count of free records.
pub record Held : Type 0 where
  pub addresses : List ℕ
  pub states : List ℕ
  pub owners : List ℕ
  pub free_map : List ℕ
  pub pool : Pool

-- Per slot an active switch, an update-under-way switch and a map image.
pub record Slots : Type 0 where
  pub active : List ℕ
  pub updating : List ℕ
  pub images : List ℕ

-- (02) The bulk store of the Multics manual comes back as a chip of B pages: each place's words, the record whose copy they are (0 for an empty place, else record number + 1), and the place that is filled next, a table of one entry.
pub record Chip : Type 0 where
  pub words : List ℕ
  pub copies : List ℕ
  pub next : List ℕ

-- Up to 32 requests, each a slot and a page, wait in order of arrival.
abbrev pub LINE : ℕ
LINE = 32

-- Memory part, lost at a cut; `line` has the requests that wait (page + 1, packed at the front, then 0), `used` each account's used count.
pub record Memory : Type 0 where
  pub core : Core
  pub held : Held
  pub slots : Slots
  pub chip : Chip
  pub line : List ℕ
  pub used : List ℕ

pub record State : Type 0 where
  pub disk : Disk
  pub memory : Memory

-- ── the frames ──
-- a frame's transfer: none, reading or writing
abbrev pub NONE : ℕ
NONE = 0

abbrev pub READING : ℕ
READING = 1

abbrev pub WRITING : ℕ
WRITING = 2

-- a frame with no page and no switch on
abbrev pub no_frame : Frame
no_frame = record { page = 0; used = 0; modified = 0; wired = 0; initial = 0; transfer = NONE }

abbrev pub frame_at : List Frame → ℕ → Frame
frame_at fs f = get_or fs f no_frame

-- ── the pages ──
-- page p of slot s
abbrev pub page_of : Sizes → ℕ → ℕ → ℕ
page_of z s p = s * z.pages + p

-- how many pages there are
abbrev pub all_pages : Sizes → ℕ
all_pages z = z.slots * z.pages

-- a page's slot
abbrev pub slot_of : Sizes → ℕ → ℕ
slot_of z i = i / z.pages

-- how many words of 32 bits the free map has
abbrev pub map_words : Sizes → ℕ
map_words z = (z.records + 31) / 32

-- ── look-ups: each table as a function ──
-- designs, accounts, pages and records
pub record Files : Type 0 where
  pub number : ℕ → ℕ
  pub account : ℕ → ℕ
  pub limit : ℕ → ℕ
  pub parent : ℕ → ℕ
  pub map : ℕ → ℕ
  pub address : ℕ → ℕ
  pub state : ℕ → ℕ
  pub owner : ℕ → ℕ
  pub active : ℕ → ℕ
  pub updating : ℕ → ℕ
  pub image : ℕ → ℕ

-- frames; `queued` and `removing` tell how often a frame stands in the free queue and in the removal list
pub record Frames : Type 0 where
  pub frame : ℕ → Frame
  pub word : ℕ → ℕ
  pub queued : ℕ → ℕ
  pub removing : ℕ → ℕ

abbrev pub files : State → Files
files st = record {
  number = at st.disk.numbers;
  account = at st.disk.accounts;
  limit = at st.disk.limits;
  parent = at st.disk.parents;
  map = at st.disk.maps;
  address = at st.memory.held.addresses;
  state = at st.memory.held.states;
  owner = at st.memory.held.owners;
  active = at st.memory.slots.active;
  updating = at st.memory.slots.updating;
  image = at st.memory.slots.images;
}

abbrev pub frames : State → Frames
frames st = record {
  frame = frame_at st.memory.core.frames;
  word = at st.memory.core.words;
  queued = times (members st.memory.core.free_queue);
  removing = times (members st.memory.core.removal_list);
}

-- ── what is said of a page ──
-- the page is in a frame
abbrev pub framed : Sizes → Frames → ℕ → Rule
framed z c i = some z.frames λ f. same (c.frame f).page (suc i)

-- the page's address is live
abbrev pub live : Files → ℕ → Rule
live v i = names (v.address i) λ r. same (v.state r) LIVE

-- the page is in a frame and modified
abbrev pub woven : Sizes → Frames → ℕ → Rule
woven z c i = some z.frames λ f. same (c.frame f).page (suc i) and same (c.frame f).modified 1

-- (02) A page is charged if its address is live, or if it is in a frame and modified.
unfoldable pub charged : Sizes → Files → Frames → ℕ → Rule
charged z v c i = live v i or woven z c i

-- who pays for the pages of a slot: the payer of its account
unfoldable pub payer : Files → ℕ → ℕ
payer v s = Payer.payer v.parent v.limit (v.account s)

-- An account's used count is the charged pages of its active designs plus the map entries above 0 of its inactive ones, over all designs it pays for.
unfoldable pub used_of : Sizes → Files → Frames → ℕ → ℕ
used_of z v c q = count (all_pages z) λ i. eqb (payer v (slot_of z i)) q && if (eqb (v.active (slot_of z i)) 1) (test (charged z v c i)) (ltb 0 (v.map i))

-- ── what is said of the records ──
module _ (z : Sizes) (state : ℕ → ℕ) where
  -- the count of free records
  unfoldable pub free_count : ℕ
  free_count = count z.records λ r. eqb (state r) FREE

  -- word k of the free map: bit r % 32 of word r / 32 is on where record r is free; bits from R up are off
  unfoldable pub free_word : ℕ → ℕ
  free_word k = bits 32 (λ r. ltb r z.records && eqb (state r) FREE) (32 * k)
