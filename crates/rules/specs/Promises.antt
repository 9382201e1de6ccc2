-- The contracts of the passes over many tables, by bare names: what a pass is given, the rule that it decides on entry, and what it leaves marked and counted.
use Rattle.std.specs.Prelude.{◌≡◌, List, ℕ, ◌+◌, ◌*◌, ◌<◌, ◌≤◌, length}
use Rattle.std.specs.Borrow.{MutBor}
use denote.Triple.Both.{Both}
use Rattle.tables.specs.Base.{at}
use Rattle.tables.specs.Rule.{Rule, same, below, ◌and◌, each, Holds}
use Rattle.model.specs.declared.sizes.Sizes.{Sizes}
use Rattle.model.specs.declared.frame.Frame.{Frame}
use Rattle.model.specs.Sizes.{most_accounts}
use Rattle.model.specs.State.{frame_at}
use Rattle.model.specs.Lent.{Ref, Table}
use Rattle.model.specs.Rules.{fit}
use Rattle.model.specs.Laws.Woven.{woven_page}
use Rattle.rules.specs.Passes.{Prefix, distinct, marked, held_row, imaged_row, all_entries, address_of, frame_rows, used_table, framed_table, HeldFit, ImagedFit, FramesFit, count_room}

-- a table that is written, as a `requires` names it, and as an `ensures` does
abbrev pub MutRef : Type 0
MutRef = MutBor (List ℕ)

abbrev pub MutTable : Type 0
MutTable = Both MutRef MutRef

-- ── the row of one slot ──
-- the first i of n entries are marked, as given and as left
abbrev pub MarkedTo : (records n : ℕ) (entries : Ref) (marks : MutRef) (i : ℕ) → Type 0
MarkedTo records n entries marks i = Prefix records n (at entries.now) (length marks.now) marks.now i

abbrev pub MarkedOn : (records n : ℕ) (entries : Table) (marks : MutTable) (i : ℕ) → Type 0
MarkedOn records n entries marks i = Prefix records n (at entries.entry.now) (length marks.entry.now) marks.exit.now i

-- the row keeps its rules, and no record is held twice up to its end
abbrev pub held_entered : (pages s active records : ℕ) (maps addresses states owners : Table) → Rule
held_entered pages s active records maps addresses states owners =
    held_row pages s active maps.entry.now addresses.entry.now states.entry.now owners.entry.now
    and distinct (s * pages + pages) records (at addresses.entry.now)

-- .. or listed twice in images
abbrev pub imaged_entered : (pages s updating records : ℕ) (addresses images states owners : Table) → Rule
imaged_entered pages s updating records addresses images states owners =
    imaged_row pages s updating addresses.entry.now images.entry.now states.entry.now owners.entry.now
    and distinct (s * pages + pages) records (at images.entry.now)

-- ── the pages of every slot: marks that are off, and counts from zeros ──
abbrev pub PagesGiven : (slots pages records : ℕ) (marks image-marks totals : MutRef) (accounts active updating maps addresses images states owners : Ref) → Type 0
PagesGiven slots pages records marks image-marks totals accounts active updating maps addresses images states owners =
    (0 < pages) × (slots ≤ length accounts.now) × (slots ≤ length active.now) × (slots ≤ length updating.now) × (length maps.now ≡ slots * pages)
    × HeldFit records maps.now addresses.now states.now owners.now
    × ImagedFit records addresses.now images.now states.now owners.now
    × Holds (each slots λ s. below (at accounts.now s) most_accounts)
    × (length totals.now ≡ most_accounts) × Holds (each most_accounts λ q. same (at totals.now q) 0)
    × (records ≤ 32 * length marks.now) × Holds (each (length marks.now) λ k. same (at marks.now k) 0)
    × (records ≤ 32 * length image-marks.now) × Holds (each (length image-marks.now) λ k. same (at image-marks.now k) 0)

-- every page keeps its rules, no record is held twice, and none is listed twice in images
abbrev pub pages_entered : (slots pages records : ℕ) (active updating maps addresses images states owners : Table) → Rule
pages_entered slots pages records active updating maps addresses images states owners =
    all_entries slots pages active.entry.now updating.entry.now maps.entry.now addresses.entry.now images.entry.now states.entry.now owners.entry.now
    and distinct (slots * pages) records (at addresses.entry.now)
    and distinct (slots * pages) records (at images.entry.now)

abbrev pub PagesLeft : (slots pages records : ℕ) (marks image-marks totals : MutTable) (accounts active maps addresses images states : Table) → Type 0
PagesLeft slots pages records marks image-marks totals accounts active maps addresses images states =
    Holds (marked records (slots * pages) (at addresses.entry.now) marks.exit.now)
    × Holds (marked records (slots * pages) (at images.entry.now) image-marks.exit.now)
    × Holds (used_table slots pages accounts.entry.now active.entry.now maps.entry.now addresses.entry.now states.entry.now totals.exit.now)

-- ── every frame: marks of records that are off, and counts that have room for the frames ──
abbrev pub FramesGiven : Sizes → (marks totals : MutRef) (accounts active addresses states words records : Ref) → Type 0
FramesGiven z marks totals accounts active addresses states words records =
    FramesFit z accounts.now active.now addresses.now states.now words.now records.now
    × (length states.now ≤ 32 * length marks.now) × Holds (each (length marks.now) λ k. same (at marks.now k) 0)
    × (length totals.now ≡ most_accounts) × Holds (each most_accounts λ q. below (at totals.now q) count_room)

-- a frame's page is one of the pages, no record is that of two frames' pages, and each frame keeps its rules and its words
abbrev pub frames_entered : Sizes → (frames : List Frame) (queued removing : List ℕ) (active addresses states words records : Table) → Rule
frames_entered z frames queued removing active addresses states words records =
    fit z.frames (length addresses.entry.now) (λ f. (frame_at frames f).page)
    and distinct z.frames (length states.entry.now) (λ f. address_of (at addresses.entry.now) (frame_at frames f).page)
    and frame_rows z.frames z.words z.pages frames words.entry.now records.entry.now active.entry.now addresses.entry.now states.entry.now queued removing

abbrev pub FramesLeft : Sizes → (frames : List Frame) (marks totals : MutTable) (accounts addresses states : Table) → Type 0
FramesLeft z frames marks totals accounts addresses states =
    Holds (marked (length states.entry.now) z.frames (λ f. address_of (at addresses.entry.now) (frame_at frames f).page) marks.exit.now)
    × Holds (framed_table z.frames z.pages (λ f. woven_page (frame_at frames f)) accounts.entry.now addresses.entry.now states.entry.now totals.entry.now totals.exit.now)
