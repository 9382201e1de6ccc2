-- The contracts of the groups of rules, over the tables as the code reads them: what a group is given, the rule that it decides, and what it leaves counted.
use Rattle.std.specs.Prelude.{◌≡◌, List, ◌*◌, ◌≤◌, length}
use Rattle.tables.specs.Base.{at}
use Rattle.tables.specs.Rule.{Rule, same, below, each, Holds}
use Rattle.model.specs.declared.sizes.Sizes.{Sizes}
use Rattle.model.specs.declared.frame.Frame.{Frame}
use Rattle.model.specs.declared.frame.Pool.{Pool}
use Rattle.model.specs.declared.lent.DiskTables.{DiskTables}
use Rattle.model.specs.declared.lent.MemoryTables.{MemoryTables}
use Rattle.model.specs.Sizes.{most_accounts}
use Rattle.model.specs.State.{frame_at}
use Rattle.model.specs.Lent.{Ref, Table}
use Rattle.model.specs.Rules.{fit}
use Rattle.model.specs.Laws.Woven.{woven_page}
use Rattle.rules.specs.Passes.{distinct, marked, used_table, framed_table, count_room}
use Rattle.rules.specs.Promises.{MutRef, MutTable}
use Rattle.questions.specs.Groups.{disk_passes, file_passes, frame_passes, count_passes, FilesLong, FramesLong}

-- ── the disk rules ──
abbrev pub disk_passed : Sizes → DiskTables → Rule
disk_passed z d = disk_passes z.slots z.pages z.records z.accounts d.numbers.now d.accounts.now d.maps.now d.parents.now

-- ── the group of pages, records and slots (`payers`: who pays for each slot): the disk rules are kept, listed records are marked, and counts start from zeros ──
abbrev pub FilesGiven : Sizes → (totals : MutRef) (listed payers : Ref) → DiskTables → MemoryTables → Type 0
FilesGiven z totals listed payers d m =
    FilesLong z d.numbers.now payers.now d.maps.now m.addresses.now m.states.now m.owners.now m.active.now m.updating.now m.images.now
    × Holds (fit (length d.maps.now) z.records (at d.maps.now))
    × (z.records ≤ 32 * length listed.now) × Holds (marked z.records (length d.maps.now) (at d.maps.now) listed.now)
    × Holds (each z.slots λ s. below (at payers.now s) z.accounts)
    × (length totals.now ≡ most_accounts) × Holds (each most_accounts λ q. same (at totals.now q) 0)

abbrev pub files_passed : Sizes → DiskTables → MemoryTables → Rule
files_passed z d m = file_passes z.slots z.pages z.records d.numbers.now d.maps.now m.addresses.now m.states.now m.owners.now m.active.now m.updating.now m.images.now

abbrev pub files_counted : Sizes → (totals : MutTable) (payers : Table) → DiskTables → MemoryTables → Rule
files_counted z totals payers d m = used_table z.slots z.pages payers.entry.now m.active.now d.maps.now m.addresses.now m.states.now totals.exit.now

-- ── the group of frames and queues: addresses and payers are in range, and the counts have room ──
abbrev pub FramesGiven : Sizes → (totals : MutRef) (payers : Ref) → DiskTables → MemoryTables → Type 0
FramesGiven z totals payers d m =
    FramesLong z payers.now d.records.now m.frame_words.now m.free_queue.now m.removal_list.now m.addresses.now m.states.now m.active.now
    × Holds (distinct (length m.addresses.now) z.records (at m.addresses.now))
    × Holds (each (length payers.now) λ s. below (at payers.now s) z.accounts)
    × (length totals.now ≡ most_accounts) × Holds (each most_accounts λ q. below (at totals.now q) count_room)

abbrev pub frames_passed : Sizes → List Frame → DiskTables → MemoryTables → Rule
frames_passed z frames d m =
    frame_passes z.frames z.words z.pages (z.slots * z.pages) (frame_at frames) d.records.now m.frame_words.now m.free_queue.now m.removal_list.now m.addresses.now m.states.now m.active.now

abbrev pub frames_counted : Sizes → List Frame → (totals : MutTable) (payers : Table) → MemoryTables → Rule
frames_counted z frames totals payers m =
    framed_table z.frames z.pages (λ f. woven_page (frame_at frames f)) payers.entry.now m.addresses.now m.states.now totals.entry.now totals.exit.now

-- ── the hand, the free count, the free map and the used counts ──
abbrev pub counts_passed : Sizes → Pool → (totals : Table) → MemoryTables → Rule
counts_passed z pool totals m = count_passes z.records z.accounts pool.hand pool.free m.states.now m.free_map.now m.used.now totals.entry.now
