-- The passes together, by subject: the disk, the files in memory, the frames, the counts; and the lengths that they need.
use Rattle.std.specs.Prelude.{◌≡◌, List, ℕ, suc, ◌+◌, ◌*◌, ◌/◌, ◌≤◌, eqb, length}
use Rattle.tables.specs.Base.{at, count}
use Rattle.tables.specs.Queue.{members, times, queue}
use Rattle.tables.specs.Rule.{Rule, same, below, ◌and◌, ◌or◌, ◌then◌, each, some}
use Rattle.model.specs.declared.frame.Frame.{Frame}
use Rattle.model.specs.declared.sizes.Sizes.{Sizes}
use Rattle.model.specs.Lines.{FREE, FILED, NULLED, LIVE, LEAVING}
use Rattle.model.specs.Rules.{lower}
use Rattle.model.specs.Laws.Fit.{Within}
use Rattle.rules.specs.Passes.{distinct, disk_slot, new_numbers, empty_rows, memory_slot, all_entries, frame_row, clean_frame, free_words}

-- ── the passes together, by subject ──
abbrev pub disk_passes : (slots pages records accounts : ℕ) (numbers account maps parents : List ℕ) → Rule
disk_passes slots pages records accounts numbers account maps parents = distinct (length maps) records (at maps) and (each slots λ s. disk_slot accounts (at numbers s) (at account s))
    and new_numbers slots numbers and empty_rows slots pages numbers maps and lower accounts (at parents)

-- a record, by the pages that hold and list it
abbrev pub record_held : (slots n : ℕ) (address map : ℕ → ℕ) (state owner : ℕ) (updating : ℕ → ℕ) (r : ℕ) → Rule
record_held slots n address map state owner updating r = below owner slots and below state 6 and ((same state NULLED or same state LIVE) then some n λ i. same (address i) (suc r))
    and (same state FILED then some n λ i. same (map i) (suc r)) and (same state LEAVING then same (updating owner) 1)

abbrev pub records_held : (records slots : ℕ) (maps addresses states owners updating : List ℕ) → Rule
records_held records slots maps addresses states owners updating = each records λ r. record_held slots (length maps) (at addresses) (at maps) (at states r) (at owners r) (at updating) r

abbrev pub file_passes : (slots pages records : ℕ) (numbers maps addresses states owners active updating images : List ℕ) → Rule
file_passes slots pages records numbers maps addresses states owners active updating images =
    (all_entries slots pages active updating maps addresses images states owners and distinct (slots * pages) records (at addresses) and distinct (slots * pages) records (at images))
    and (each slots λ s. memory_slot (at numbers s) (at active s) (at updating s)) and records_held records slots maps addresses states owners updating

abbrev pub frame_passes : (count words pages total : ℕ) (frame : ℕ → Frame) (records word free_queue removal_list addresses states active : List ℕ) → Rule
frame_passes count words pages total frame records word free_queue removal_list addresses states active =
    (distinct count total (λ f. (frame f).page) and queue count free_queue and queue count removal_list)
    and each count λ f. frame_row pages active addresses states (times (members free_queue) f) (times (members removal_list) f) (frame f) and clean_frame words (frame f) f word records addresses states

-- totals: each account's used pages, as counted
abbrev pub count_passes : (records accounts hand free : ℕ) (states free_map used totals : List ℕ) → Rule
count_passes records accounts hand free states free_map used totals = below hand records and same free (count records λ r. eqb (at states r) FREE)
    and free_words records free_map states ((records + 31) / 32) and each accounts λ q. same (at used q) (at totals q)

-- ── the lengths that the passes of each subject need ──
pub record DiskLong (z : Sizes) (numbers account maps parents : List ℕ) : Type 0 where
  pub within : Within z
  pub numbers_long : length numbers ≡ z.slots
  pub accounts_long : length account ≡ z.slots
  pub maps_long : length maps ≡ z.slots * z.pages
  pub parents_long : length parents ≡ z.accounts

-- `account`: who pays for each slot
pub record FilesLong (z : Sizes) (numbers account maps addresses states owners active updating images : List ℕ) : Type 0 where
  pub within : Within z
  pub numbers_long : length numbers ≡ z.slots
  pub accounts_long : z.slots ≤ length account
  pub maps_long : length maps ≡ z.slots * z.pages
  pub addresses_long : length addresses ≡ z.slots * z.pages
  pub states_long : length states ≡ z.records
  pub owners_long : length owners ≡ z.records
  pub active_long : length active ≡ z.slots
  pub updating_long : length updating ≡ z.slots
  pub images_long : length images ≡ z.slots * z.pages

pub record FramesLong (z : Sizes) (account records words free_queue removal_list addresses states active : List ℕ) : Type 0 where
  pub within : Within z
  pub accounts_long : z.slots ≤ length account
  pub records_long : length records ≡ z.records * z.words
  pub words_long : length words ≡ z.frames * z.words
  pub free_long : length free_queue ≡ z.frames
  pub removal_long : length removal_list ≡ z.frames
  pub addresses_long : length addresses ≡ z.slots * z.pages
  pub states_long : length states ≡ z.records
  pub active_long : length active ≡ z.slots

pub record CountsLong (z : Sizes) (states free_map used : List ℕ) : Type 0 where
  pub within : Within z
  pub states_long : length states ≡ z.records
  pub free_map_long : length free_map ≡ (z.records + 31) / 32
  pub used_long : length used ≡ z.accounts
