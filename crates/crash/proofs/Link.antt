-- The invariant behind demand 3, as statements split by subject: what ties the ledger to the disk, and once restarted to the memory.
-- Each part names only the look-ups it speaks of, so that an event which leaves those alone keeps the part as it stands.
use mathlib.Core.Path.{◌≡◌}
use mathlib.Core.Bool.{Bool}
use mathlib.Core.List.{List}
use mathlib.Core.Logic.{◌⊎◌}
use Prim.Native.Nat.{ℕ, suc, ◌+◌, ◌*◌, ◌%◌, ◌<◌, ◌≤◌}
use lib.Dec.{T}
use lib.ListN.{length}
use Rattle.tables.specs.Base.{at}
use Rattle.tables.specs.Rule.{Holds}
use Rattle.model.specs.declared.sizes.Sizes.{Sizes}
use Rattle.model.specs.declared.frame.Frame.{Frame}
use Rattle.model.specs.Lines.{LIVE}
use Rattle.model.specs.State.{Disk, State, READING, WRITING, frame_at, all_pages, slot_of}
use Rattle.model.specs.Rules.{once}
use Rattle.model.specs.Ledger.{Write, Update, Note, Ledger, pack_design}
use Rattle.model.specs.Demand3.{last_into, last_update}
use Rattle.crash.proofs.Writes.{In, Numbered}

-- a finished write of page i that still counts; of: each slot's design
abbrev pub OfPage : Sizes → (ℕ → ℕ) → ℕ → Write → Type 0
OfPage z of i y = (y.design ≡ of (slot_of z i)) × ((y.page ≡ i % z.pages) × T y.counts)

-- no write of the page that counts is newer than x
abbrev pub Latest : Sizes → (ℕ → ℕ) → List Write → ℕ → Write → Type 0
Latest z of finished i x = (y : Write) → In y finished → OfPage z of i y → y.serial ≤ x.serial

-- nor one of those among the first n finished
abbrev pub Newest : Sizes → (ℕ → ℕ) → List Write → ℕ → ℕ → Write → Type 0
Newest z of finished i n x = (y : Write) → In y finished → OfPage z of i y → y.serial ≤ n → y.serial ≤ x.serial

-- x is a finished write of page i that counts, and record r holds its words; word: the records' words
pub record Own (z : Sizes) (word of : ℕ → ℕ) (x : Write) (i r : ℕ) : Type 0 where
  pub some : 0 < x.serial
  pub design : x.design ≡ of (slot_of z i)
  pub page : x.page ≡ i % z.pages
  pub words : (k : ℕ) → k < z.words → word (r * z.words + k) ≡ x.words k
  pub counts : T x.counts

-- x is no write: none into record r is finished since the start. The pack listed r at page i, of the same design, and r holds the pack's words
pub record Untouched (z : Sizes) (pack : Disk) (word of : ℕ → ℕ) (x : Write) (i r : ℕ) : Type 0 where
  pub none : x.serial ≡ 0
  pub listed : at pack.maps i ≡ suc r
  pub design : of (slot_of z i) ≡ pack_design pack (slot_of z i)
  pub words : (k : ℕ) → k < z.words → word (r * z.words + k) ≡ at pack.records (r * z.words + k)

abbrev pub Owned : Sizes → Disk → (ℕ → ℕ) → (ℕ → ℕ) → Write → ℕ → ℕ → Type 0
Owned z pack word of x i r = Own z word of x i r ⊎ Untouched z pack word of x i r

-- ── the disk, whether restarted or not ──
-- a filled slot has a design, no two have one, none is newer than the count, nor was one of the pack; and none to come or of no slot has stored a live page
pub record Designs (z : Sizes) (pack : Disk) (number : ℕ → ℕ) (births : ℕ) (of : ℕ → ℕ) (stored : List Update) : Type 0 where
  pub born : (s : ℕ) → s < z.slots → ¬ (number s ≡ 0) → 0 < of s
  pub distinct : Holds (once z.slots of)
  pub young : (s : ℕ) → s < z.slots → of s ≤ births
  pub elder : (s : ℕ) → s < z.slots → pack_design pack s ≤ births
  pub known : (d p : ℕ) → ((d ≡ 0) ⊎ (births < d)) → ¬ (T ((last_update d stored).live p))

-- page i is listed as at its design's birth: as the pack has it, or not at all
pub record Newborn (z : Sizes) (pack : Disk) (map of : ℕ → ℕ) (i : ℕ) : Type 0 where
  pub old : of (slot_of z i) ≡ pack_design pack (slot_of z i) → map i ≡ at pack.maps i
  pub young : ¬ (of (slot_of z i) ≡ pack_design pack (slot_of z i)) → map i ≡ 0

pub record Listing (z : Sizes) (pack : Disk) (word map of : ℕ → ℕ) (finished : List Write) (stored : List Update) : Type 0 where
  -- each listed record's last finished write was of that page, and its words stand there; or it is as in the pack
  pub owned : (i : ℕ) → i < all_pages z → (r : ℕ) → map i ≡ suc r → Owned z pack word of (last_into r finished) i r
  -- finished writes are numbered, and no stored update is ahead of them
  pub numbered : Numbered finished
  pub after : (d : ℕ) → (last_update d stored).after ≤ length finished
  -- the pages live when the last finished update began are listed, by no older write than the last finished before then
  pub listed : (i : ℕ) → i < all_pages z → (let u = last_update (of (slot_of z i)) stored in T (u.live (i % z.pages)) → (r : ℕ) × (map i ≡ suc r) × Newest z of finished i u.after (last_into r finished))
  -- until an update of its design is finished, a page is listed as at the design's birth
  pub newborn : (i : ℕ) → i < all_pages z → ¬ ((last_update (of (slot_of z i)) stored).design ≡ of (slot_of z i)) → Newborn z pack map of i
  -- from then on a listed page was live when the last finished one began
  pub promised : (i : ℕ) → i < all_pages z → (r : ℕ) → map i ≡ suc r → (let u = last_update (of (slot_of z i)) stored in u.design ≡ of (slot_of z i) → T (u.live (i % z.pages)))

-- ── the memory, once restarted ──
-- the records that a begun image and a live address name; a live one's last write, and that of an inactive design's listed page, is the page's newest
pub record Named (z : Sizes) (pack : Disk) (word map address state active image of : ℕ → ℕ) (finished : List Write) : Type 0 where
  pub imaged : (i : ℕ) → i < all_pages z → (r : ℕ) → image i ≡ suc r → Owned z pack word of (last_into r finished) i r
  pub live : (i : ℕ) → i < all_pages z → (r : ℕ) → address i ≡ suc r → state r ≡ LIVE → Owned z pack word of (last_into r finished) i r
  pub latest : (i : ℕ) → i < all_pages z → (r : ℕ) → address i ≡ suc r → state r ≡ LIVE → Latest z of finished i (last_into r finished)
  pub rested : (i : ℕ) → i < all_pages z → ¬ (active (slot_of z i) ≡ 1) → (r : ℕ) → map i ≡ suc r → Latest z of finished i (last_into r finished)

-- the open updates are the slots with an update under way; the pages live when it began have an image entry
pub record Begun (z : Sizes) (image updating of : ℕ → ℕ) (finished : List Write) (flag : ℕ → Bool) (update : ℕ → Update) : Type 0 where
  pub only : (s : ℕ) → s < z.slots → T (flag s) → updating s ≡ 1
  pub opened : (s : ℕ) → s < z.slots → updating s ≡ 1 → T (flag s)
  pub design : (s : ℕ) → s < z.slots → updating s ≡ 1 → (update s).design ≡ of s
  pub ahead : (s : ℕ) → s < z.slots → updating s ≡ 1 → (update s).after ≤ length finished
  pub listed : (i : ℕ) → i < all_pages z → updating (slot_of z i) ≡ 1
      → (let u = update (slot_of z i) in T (u.live (i % z.pages)) → (r : ℕ) × (image i ≡ suc r) × Newest z of finished i u.after (last_into r finished))
  -- and no others have
  pub promised : (i : ℕ) → i < all_pages z → updating (slot_of z i) ≡ 1 → (r : ℕ) → image i ≡ suc r → T ((update (slot_of z i)).live (i % z.pages))

-- live in the ledger: a live address
abbrev pub Lives : Sizes → (ℕ → ℕ) → (ℕ → ℕ) → (ℕ → Bool) → Type 0
Lives z address state live = (i : ℕ) → i < all_pages z → T (live i) → (r : ℕ) × (address i ≡ suc r) × (state r ≡ LIVE)

-- and a live address is live in the ledger
abbrev pub Alive : Sizes → (ℕ → ℕ) → (ℕ → ℕ) → (ℕ → Bool) → Type 0
Alive z address state live = (i : ℕ) → i < all_pages z → (r : ℕ) → address i ≡ suc r → state r ≡ LIVE → T (live i)

-- an open write is of its frame's page, to that page's record, with the page's text
pub record Opened (z : Sizes) (address of : ℕ → ℕ) (text : ℕ → ℕ → ℕ) (i : ℕ) (x : Write) : Type 0 where
  pub design : x.design ≡ of (slot_of z i)
  pub page : x.page ≡ i % z.pages
  pub record' : address i ≡ suc x.record'
  pub words : (k : ℕ) → k < z.words → x.words k ≡ text i k

-- a frame with a page carries the ledger's note of that design and page; modified, it was written since its fault and since the restart, and only then; none is written while it is being read;
-- unless it is being read, it holds the page's text (word: the frame's words)
pub record Holding (z : Sizes) (g : Frame) (word : ℕ → ℕ) (address of : ℕ → ℕ) (text : ℕ → ℕ → ℕ) (touched kept : ℕ → Bool) (n : Note) (x : Write) (i : ℕ) : Type 0 where
  pub place : n.place ≡ i
  pub design : n.design ≡ of (slot_of z i)
  pub written : g.modified ≡ 1 → T (touched i)
  pub clean : g.modified ≡ 1 → ¬ (T (kept i))
  pub turned : T (touched i) → g.modified ≡ 1
  pub awaited : g.transfer ≡ READING → ¬ (T (touched i))
  pub said : ¬ (g.transfer ≡ READING) → (k : ℕ) → k < z.words → word k ≡ text i k
  pub opened : g.transfer ≡ WRITING → Opened z address of text i x

-- the open writes are the writing frames
pub record InFrame (z : Sizes) (g : Frame) (word : ℕ → ℕ) (address of : ℕ → ℕ) (text : ℕ → ℕ → ℕ) (touched kept : ℕ → Bool) (n : Note) (flag : Bool) (x : Write) : Type 0 where
  pub holding : (i : ℕ) → g.page ≡ suc i → Holding z g word address of text touched kept n x i
  pub only : T flag → g.transfer ≡ WRITING
  pub opened : g.transfer ≡ WRITING → T flag

abbrev pub InFrames : Sizes → (ℕ → Frame) → (ℕ → ℕ) → (ℕ → ℕ) → (ℕ → ℕ) → (ℕ → ℕ → ℕ) → (ℕ → Bool) → (ℕ → Bool) → (ℕ → Note) → (ℕ → Bool) → (ℕ → Write) → Type 0
InFrames z frame word address of text touched kept noted flag write =
    (f : ℕ) → f < z.frames → InFrame z (frame f) (λ k. word (f * z.words + k)) address of text touched kept (noted f) (flag f) (write f)

-- the page is in no frame, or its words are still awaited
abbrev pub Away : Sizes → (ℕ → Frame) → ℕ → Type 0
Away z frame i = (f : ℕ) → f < z.frames → (frame f).page ≡ suc i → (frame f).transfer ≡ READING

-- a page that is away: its live record's words, or zeros
pub record AwayText (z : Sizes) (word address state active : ℕ → ℕ) (frame : ℕ → Frame) (text : ℕ → ℕ → ℕ) : Type 0 where
  pub paged : (i : ℕ) → i < all_pages z → Away z frame i → (r : ℕ) → address i ≡ suc r → state r ≡ LIVE → (k : ℕ) → k < z.words → word (r * z.words + k) ≡ text i k
  pub void : (i : ℕ) → i < all_pages z → active (slot_of z i) ≡ 1 → Away z frame i → ((r : ℕ) → address i ≡ suc r → ¬ (state r ≡ LIVE)) → (k : ℕ) → k < z.words → text i k ≡ 0

-- a page of an inactive design: its listed record's words, or zeros
abbrev pub FiledText : Sizes → (ℕ → ℕ) → (ℕ → ℕ) → (ℕ → ℕ) → (ℕ → ℕ → ℕ) → Type 0
FiledText z word map active text = (i : ℕ) → i < all_pages z → ¬ (active (slot_of z i) ≡ 1) → (k : ℕ) → k < z.words
    → (map i ≡ 0 → text i k ≡ 0) × ((r : ℕ) → map i ≡ suc r → text i k ≡ word (r * z.words + k))

-- a page's record: by the stored map, a begun image, or a live address
abbrev pub Names : (map image address state : ℕ → ℕ) → ℕ → ℕ → Type 0
Names map image address state i r = (map i ≡ suc r) ⊎ ((image i ≡ suc r) ⊎ ((address i ≡ suc r) × (state r ≡ LIVE)))

-- a page not written or truncated since the restart reads as each record that names it, and no write of it that counts is newer than the last into that record
pub record KeptAs (z : Sizes) (word of : ℕ → ℕ) (text : ℕ → ℕ → ℕ) (finished : List Write) (i r : ℕ) : Type 0 where
  pub latest : Latest z of finished i (last_into r finished)
  pub words : (k : ℕ) → k < z.words → text i k ≡ word (r * z.words + k)

abbrev pub KeptText : Sizes → (word map image address state of : ℕ → ℕ) → (ℕ → ℕ → ℕ) → (ℕ → Bool) → List Write → Type 0
KeptText z word map image address state of text kept finished = (i : ℕ) → i < all_pages z → T (kept i) → (r : ℕ) → Names map image address state i r → KeptAs z word of text finished i r

-- ── the whole ──
pub record OnDisk (z : Sizes) (st : State) (l : Ledger) : Type 0 where
  pub designs : Designs z l.pack (at st.disk.numbers) l.births l.design l.stored
  pub listing : Listing z l.pack (at st.disk.records) (at st.disk.maps) l.design l.finished l.stored

pub record InMemory (z : Sizes) (st : State) (l : Ledger) : Type 0 where
  pub named : Named z l.pack (at st.disk.records) (at st.disk.maps) (at st.memory.held.addresses) (at st.memory.held.states) (at st.memory.slots.active) (at st.memory.slots.images) l.design l.finished
  pub begun : Begun z (at st.memory.slots.images) (at st.memory.slots.updating) l.design l.finished l.pending.updating l.pending.update
  pub lives : Lives z (at st.memory.held.addresses) (at st.memory.held.states) l.pages.live
  pub alive : Alive z (at st.memory.held.addresses) (at st.memory.held.states) l.pages.live
  pub framed : InFrames z (frame_at st.memory.core.frames) (at st.memory.core.words) (at st.memory.held.addresses) l.design l.pages.text l.pages.touched l.pages.kept l.pending.noted l.pending.writing l.pending.write
  pub away : AwayText z (at st.disk.records) (at st.memory.held.addresses) (at st.memory.held.states) (at st.memory.slots.active) (frame_at st.memory.core.frames) l.pages.text
  pub filed : FiledText z (at st.disk.records) (at st.disk.maps) (at st.memory.slots.active) l.pages.text
  pub kept : KeptText z (at st.disk.records) (at st.disk.maps) (at st.memory.slots.images) (at st.memory.held.addresses) (at st.memory.held.states) l.design l.pages.text l.pages.kept l.finished

-- the invariant of a restarted keeper, but for the rules and lengths
pub record Tied (z : Sizes) (st : State) (l : Ledger) : Type 0 where
  pub disk : OnDisk z st l
  pub memory : InMemory z st l

-- before a restart nothing is open
pub record Closed (z : Sizes) (l : Ledger) : Type 0 where
  pub writing : (f : ℕ) → f < z.frames → ¬ (T (l.pending.writing f))
  pub updating : (s : ℕ) → s < z.slots → ¬ (T (l.pending.updating s))
