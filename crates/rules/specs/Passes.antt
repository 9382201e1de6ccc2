-- What one pass of the code decides, where that is not a rule of the model as it stands: the marks of what is named, a row of entries, a record, a frame.
use Rattle.std.specs.Prelude.{◌≡◌, Bool, ◌&&◌, List, ℕ, suc, ◌+◌, ◌-◌, ◌*◌, ◌/◌, ◌≤◌, ◌<◌, eqb, ltb, length}
use Rattle.tables.specs.Base.{at, if, count}
use Rattle.tables.specs.Bits.{bits}
use Rattle.tables.specs.Marks.{bit_of, mark}
use Rattle.tables.specs.Queue.{members, times}
use Rattle.tables.specs.Rule.{Rule, same, below, non, ◌and◌, ◌or◌, ◌then◌, each, some, named, names, Holds, test}
use Rattle.model.specs.declared.sizes.Sizes.{Sizes}
use Rattle.model.specs.declared.frame.Frame.{Frame}
use Rattle.model.specs.Sizes.{most_frames, most_slots, most_pages, most_accounts}
use Rattle.model.specs.Lines.{FREE, FILED, NULLED, LIVE, RELEASED, LEAVING}
use Rattle.model.specs.State.{NONE, READING, WRITING, frame_at, Frames, all_pages, slot_of}
use Rattle.model.specs.Rules.{fit, once}

-- the pages of all slots, at most
abbrev pub most_entries : ℕ
most_entries = most_slots * most_pages

-- before the frames are passed over each count is below this: they add at most one each, so that no sum is too large
abbrev pub count_room : ℕ
count_room = 32768

-- each of the first n entries names a number below m or none, and none is named twice
abbrev pub distinct : ℕ → ℕ → (ℕ → ℕ) → Rule
distinct n m entry = fit n m entry and once n entry

-- the marks tell of each number below m whether one of the first n entries names it
abbrev pub marked : ℕ → ℕ → (ℕ → ℕ) → List ℕ → Rule
marked m n entry marks = (each n λ i. named (entry i) λ r. same (bit_of marks r) 1) and each m λ r. same (bit_of marks r) 1 then some n λ i. same (entry i) (suc r)

-- an entry names nothing, or a number below m that is not marked
abbrev pub unmarked : ℕ → List ℕ → ℕ → Rule
unmarked m marks entry = named entry λ r. below r m and same (bit_of marks r) 0

-- what the entry names is marked too
abbrev pub noted : List ℕ → ℕ → List ℕ
noted marks entry = if (eqb entry 0) marks (mark marks (entry - 1))

-- of n entries the first i are marked, each once, and nothing else is, in `size` words
pub record Prefix (m n : ℕ) (entry : ℕ → ℕ) (size : ℕ) (marks : List ℕ) (i : ℕ) : Type 0 where
  pub named : (k : ℕ) → k < i → (r : ℕ) → entry k ≡ suc r → (r < m) × (bit_of marks r ≡ 1)
  pub naming : (r : ℕ) → ¬ (bit_of marks r ≡ 0) → (k : ℕ) × (k < i) × (entry k ≡ suc r)
  pub apart : Holds (once i entry)
  pub sized : length marks ≡ size
  pub enough : m ≤ 32 * size
  pub room : i ≤ n

-- ── slots ──
abbrev pub disk_slot : (accounts number account : ℕ) → Rule
disk_slot accounts number account = (same number 0 then same account 0) and below account accounts

abbrev pub memory_slot : (number active updating : ℕ) → Rule
memory_slot number active updating = below active 2 and below updating 2 and (same active 1 then below 0 number) and (same updating 1 then same active 1)

-- a filled slot's number stands in no slot before it
abbrev pub new_number : List ℕ → ℕ → Rule
new_number numbers s = non (same (at numbers s) 0) then each s λ t. non (same (at numbers t) (at numbers s))

abbrev pub new_numbers : ℕ → List ℕ → Rule
new_numbers slots numbers = each slots λ s. new_number numbers s

-- the row of an empty slot is zero
abbrev pub empty_row : (pages s number : ℕ) (maps : List ℕ) → Rule
empty_row pages s number maps = same number 0 then each pages λ p. same (at maps (s * pages + p)) 0

abbrev pub empty_rows : (slots pages : ℕ) (numbers maps : List ℕ) → Rule
empty_rows slots pages numbers maps = each slots λ s. empty_row pages s (at numbers s) maps

-- ── a page's three entries, by its slot's switches and by the states and slots of the records that they name ──
module _ (s : ℕ) (state owner : ℕ → ℕ) where
  abbrev pub filed_record : (active r : ℕ) → Rule
  filed_record active r = non (same active 1) then same (owner r) s and same (state r) FILED

  abbrev pub mapped_record : (active address r : ℕ) → Rule
  mapped_record active address r = same active 1 then same address (suc r) or same (owner r) s and (same (state r) RELEASED or same (state r) LEAVING)

  abbrev pub held_record : ℕ → Rule
  held_record r = same (owner r) s and (same (state r) NULLED or same (state r) LIVE)

  abbrev pub imaged_record : (address r : ℕ) → Rule
  imaged_record address r = same address (suc r) or same (owner r) s and same (state r) RELEASED

-- an entry that names something needs its slot's switch on
abbrev pub switched : (switch entry : ℕ) → Rule
switched switch entry = named entry λ r. same switch 1

-- the entries of a page that is stored and held: in the map, and its address
abbrev pub held_entries : (s active map address : ℕ) (state owner : ℕ → ℕ) → Rule
held_entries s active map address state owner = named map (filed_record s state owner active) and named map (mapped_record s state owner active address)
    and named address (held_record s state owner) and switched active address

-- .. and in the image
abbrev pub imaged_entries : (s updating address image : ℕ) (state owner : ℕ → ℕ) → Rule
imaged_entries s updating address image state owner = named image (imaged_record s state owner address) and switched updating image

abbrev pub held_row : (pages s active : ℕ) (maps addresses states owners : List ℕ) → Rule
held_row pages s active maps addresses states owners = each pages λ p. held_entries s active (at maps (s * pages + p)) (at addresses (s * pages + p)) (at states) (at owners)

abbrev pub imaged_row : (pages s updating : ℕ) (addresses images states owners : List ℕ) → Rule
imaged_row pages s updating addresses images states owners = each pages λ p. imaged_entries s updating (at addresses (s * pages + p)) (at images (s * pages + p)) (at states) (at owners)

abbrev pub all_entries : (slots pages : ℕ) (active updating maps addresses images states owners : List ℕ) → Rule
all_entries slots pages active updating maps addresses images states owners = each slots λ s. held_row pages s (at active s) maps addresses states owners and imaged_row pages s (at updating s) addresses images states owners

-- ── a record, by the marks of what is held and of what is listed ──
abbrev pub record_row : (slots held listed state owner : ℕ) (updating : ℕ → ℕ) → Rule
record_row slots held listed state owner updating = below owner slots and below state 6 and ((same state NULLED or same state LIVE) then same held 1)
    and (same state FILED then same listed 1) and (same state LEAVING then same (updating owner) 1)

abbrev pub record_rows : (records slots : ℕ) (held listed : ℕ → ℕ) (states owners updating : List ℕ) → Rule
record_rows records slots held listed states owners updating = each records λ r. record_row slots (held r) (listed r) (at states r) (at owners r) (at updating)

-- ── the tables of pages are of one length, and the map names records that there are ──
pub record HeldFit (records : ℕ) (maps addresses states owners : List ℕ) : Type 0 where
  pub addresses_long : length addresses ≡ length maps
  pub few : length maps ≤ most_entries
  pub states_long : length states ≡ records
  pub owners_long : length owners ≡ records
  pub maps_fit : Holds (fit (length maps) records (at maps))

pub record ImagedFit (records : ℕ) (addresses images states owners : List ℕ) : Type 0 where
  pub images_long : length images ≡ length addresses
  pub states_long : length states ≡ records
  pub owners_long : length owners ≡ records

-- ── queues and frames ──
-- one entry of a queue of n numbers, with the entry after it
abbrev pub queue_entry : (n entry next : ℕ) → Rule
queue_entry n entry next = (named entry λ f. below f n) and (same entry 0 then same next 0)

-- table t tells how often each number below `size` is in the queue
abbrev pub counted : ℕ → List ℕ → List ℕ → Rule
counted size q t = each size λ f. same (at t f) (times (members q) f)

abbrev pub switches : Frame → Rule
switches x = below x.used 2 and below x.modified 2 and below x.wired 2 and below x.initial 2 and below x.transfer 3

abbrev pub one_place : (queued removing : ℕ) → Frame → Rule
one_place queued removing x = same (queued + removing + x.wired + if (eqb x.transfer NONE) 0 1) 1

-- no page and no switch on
abbrev pub bare : Frame → Rule
bare x = same x.page 0 and same x.used 0 and same x.modified 0 and same x.wired 0 and same x.initial 0

-- the page with this address has a live one
abbrev pub live_page : (address : ℕ) (state : ℕ → ℕ) → Rule
live_page address state = names address λ r. same (state r) LIVE

abbrev pub active_page : (pages : ℕ) (active : ℕ → ℕ) (page : ℕ) → Rule
active_page pages active page = named page λ i. same (active (i / pages)) 1

abbrev pub held_page : (address state : ℕ → ℕ) (transfer page : ℕ) → Rule
held_page address state transfer page = named page λ i. non (same (address i) 0) and (same transfer READING then live_page (address i) state)

-- the address of the page that an entry names, or 0 where it names none
abbrev pub address_of : (address : ℕ → ℕ) (page : ℕ) → ℕ
address_of address page = if (eqb page 0) 0 (address (page - 1))

abbrev pub frame_row : (pages : ℕ) (active addresses states : List ℕ) (queued removing : ℕ) → Frame → Rule
frame_row pages active addresses states queued removing x = switches x and one_place queued removing x and (same x.transfer WRITING then same x.modified 1)
    and (non (same queued 0) then bare x) and (same queued 0 then non (same x.page 0)) and active_page pages (at active) x.page and held_page (at addresses) (at states) x.transfer x.page

-- ── the words of a frame ──
abbrev pub content : (w f r state : ℕ) (words records : List ℕ) → Rule
content w f r state words records = each w λ k. same (at words (f * w + k)) (if (eqb state LIVE) (at records (r * w + k)) 0)

abbrev pub clean_frame : (w : ℕ) → Frame → (f : ℕ) (words records addresses states : List ℕ) → Rule
clean_frame w x f words records addresses states = named x.page λ i. same x.transfer NONE then same x.modified 0 then named (at addresses i) λ r. content w f r (at states r) words records

-- ── each frame: its own rules, and its words ──
abbrev pub frame_rows : (n w pages : ℕ) (frames : List Frame) (words records active addresses states queued removing : List ℕ) → Rule
frame_rows n w pages frames words records active addresses states queued removing = each n λ f. frame_row pages active addresses states (at queued f) (at removing f) (frame_at frames f)
    and clean_frame w (frame_at frames f) f words records addresses states

-- what the pass over the frames needs of the tables
pub record FramesFit (z : Sizes) (account active addresses states words records : List ℕ) : Type 0 where
  pub few : z.frames ≤ most_frames
  pub pages : 0 < z.pages
  pub accounts_long : length active ≤ length account
  pub accounts_fit : Holds (each (length account) λ s. below (at account s) most_accounts)
  pub addresses_long : length addresses ≡ length active * z.pages
  pub addresses_fit : Holds (fit (length addresses) (length states) (at addresses))
  pub words_long : z.frames * z.words ≤ length words
  pub records_long : length states * z.words ≤ length records

-- ── counts ──
-- a page counts as used by its address or its map alone: that is live, or its design is inactive and lists it
abbrev pub used_page : (active map address : ℕ) (state : ℕ → ℕ) → Bool
used_page active map address state = if (eqb active 1) (test (live_page address state)) (ltb 0 map)

abbrev pub used_pages : (pages n q : ℕ) (account active maps addresses states : List ℕ) → ℕ
used_pages pages n q account active maps addresses states = count n λ i. eqb (at account (i / pages)) q && used_page (at active (i / pages)) (at maps i) (at addresses i) (at states)

abbrev pub used_table : (slots pages : ℕ) (account active maps addresses states t : List ℕ) → Rule
used_table slots pages account active maps addresses states t = each most_accounts λ q. same (at t q) (used_pages pages (slots * pages) q account active maps addresses states)

-- .. or by its frame alone, which is modified (page is the entry of such a frame's page): its address is not live
abbrev pub framed_page : (pages q page : ℕ) (account address state : ℕ → ℕ) → Rule
framed_page pages q page account address state = names page λ i. same (account (i / pages)) q and non (live_page (address i) state)

abbrev pub framed_pages : (count pages q : ℕ) (page : ℕ → ℕ) (account addresses states : List ℕ) → ℕ
framed_pages n pages q page account addresses states = count n λ f. test (framed_page pages q (page f) (at account) (at addresses) (at states))

-- table t with those of the first n frames counted too
abbrev pub framed_table : (n pages : ℕ) (page : ℕ → ℕ) (account addresses states t t' : List ℕ) → Rule
framed_table n pages page account addresses states t t' = each most_accounts λ q. same (at t' q) (at t q + framed_pages n pages q page account addresses states)

abbrev pub free_record : (records : ℕ) (states : List ℕ) → ℕ → Bool
free_record records states r = ltb r records && eqb (at states r) FREE

abbrev pub free_words : (records : ℕ) (map states : List ℕ) (n : ℕ) → Rule
free_words records map states n = each n λ k. same (at map k) (bits 32 (free_record records states) (32 * k))

-- what the counts by frames rest on: a frame's page is one of the pages, of an active design, and in no other frame
pub record Seated (z : Sizes) (active : ℕ → ℕ) (c : Frames) : Type 0 where
  pub fit : (f : ℕ) → f < z.frames → (i : ℕ) → (c.frame f).page ≡ suc i → i < all_pages z
  pub on : (f : ℕ) → f < z.frames → (i : ℕ) → (c.frame f).page ≡ suc i → active (slot_of z i) ≡ 1
  pub once : (f : ℕ) → f < z.frames → (g : ℕ) → g < z.frames → (i : ℕ) → (c.frame f).page ≡ suc i → (c.frame g).page ≡ suc i → f ≡ g
