-- What a caller lends, in the order in which the code takes it: the frames, the pool and the tables of numbers as one state.
use Rattle.std.specs.Prelude.{◌≡◌, List, [], ℕ}
use Rattle.std.specs.Borrow.{Bor}
use denote.Triple.Both.{Both}
use Rattle.model.specs.declared.frame.Frame.{Frame}
use Rattle.model.specs.declared.frame.Pool.{Pool}
use Rattle.model.specs.declared.lent.DiskTables.{DiskTables}
use Rattle.model.specs.declared.lent.MemoryTables.{MemoryTables}
use Rattle.tables.specs.Queue.{packed}
use Rattle.model.specs.State.{Disk, Memory, Chip, State, LINE}

abbrev pub disk_of : List ℕ → List ℕ → List ℕ → List ℕ → List ℕ → List ℕ → List ℕ → Disk
disk_of records numbers accounts maps limits parents highest = record { records = records; numbers = numbers; accounts = accounts; maps = maps; limits = limits; parents = parents; highest = highest }

-- the line with nobody waiting: that of the events which do not look at it
abbrev pub no_line : List ℕ
no_line = packed LINE []

abbrev pub chip_of : List ℕ → List ℕ → List ℕ → Chip
chip_of words copies next = record { words = words; copies = copies; next = next }

-- no chip: that of the events which do not look at it
abbrev pub no_chip : Chip
no_chip = chip_of [] [] []

abbrev pub memory_in : Chip → List ℕ → List Frame → Pool → List ℕ → List ℕ → List ℕ → List ℕ → List ℕ → List ℕ → List ℕ → List ℕ → List ℕ → List ℕ → List ℕ → Memory
memory_in chip line frames pool words free_queue removal_list addresses states owners free_map active updating images used = record {
  core = record { frames = frames; words = words; free_queue = free_queue; removal_list = removal_list };
  held = record { addresses = addresses; states = states; owners = owners; free_map = free_map; pool = pool };
  slots = record { active = active; updating = updating; images = images };
  chip = chip;
  line = line;
  used = used;
}

abbrev pub memory_of : List Frame → Pool → List ℕ → List ℕ → List ℕ → List ℕ → List ℕ → List ℕ → List ℕ → List ℕ → List ℕ → List ℕ → List ℕ → Memory
memory_of = memory_in no_chip no_line

-- everything lent, with a line; and with nobody waiting
abbrev pub state_in : Chip → List ℕ → List Frame → Pool → List ℕ → List ℕ → List ℕ → List ℕ → List ℕ → List ℕ → List ℕ → List ℕ → List ℕ → List ℕ → List ℕ → List ℕ → List ℕ → List ℕ → List ℕ → List ℕ → List ℕ → List ℕ → State
state_in chip line frames pool records numbers accounts maps limits parents highest words free_queue removal_list addresses states owners free_map active updating images used = record {
  disk = disk_of records numbers accounts maps limits parents highest;
  memory = memory_in chip line frames pool words free_queue removal_list addresses states owners free_map active updating images used;
}

abbrev pub state_of : List Frame → Pool → List ℕ → List ℕ → List ℕ → List ℕ → List ℕ → List ℕ → List ℕ → List ℕ → List ℕ → List ℕ → List ℕ → List ℕ → List ℕ → List ℕ → List ℕ → List ℕ → List ℕ → List ℕ → State
state_of = state_in no_chip no_line

-- ── the same by bare names: what the contracts speak of ──
-- a table of numbers as a `requires` names it, and as an `ensures` does: passed, and left
abbrev pub Ref : Type 0
Ref = Bor (List ℕ)

abbrev pub Table : Type 0
Table = Both Ref Ref

-- ── with the line: what the events that look at it speak of ──
abbrev pub lined_of : List Frame → Pool → List ℕ → List ℕ → List ℕ → List ℕ → List ℕ → List ℕ → List ℕ → List ℕ → List ℕ → List ℕ → List ℕ → List ℕ → List ℕ → List ℕ → List ℕ → List ℕ → List ℕ → List ℕ → List ℕ → State
lined_of frames pool records numbers accounts maps limits parents highest words free_queue removal_list addresses states owners free_map active updating images line used =
    state_in no_chip line frames pool records numbers accounts maps limits parents highest words free_queue removal_list addresses states owners free_map active updating images used

-- ── everything lent, the chip and the line with it: what the calls speak of ──
abbrev pub all_of : List Frame → Pool → List ℕ → List ℕ → List ℕ → List ℕ → List ℕ → List ℕ → List ℕ → List ℕ → List ℕ → List ℕ → List ℕ → List ℕ → List ℕ → List ℕ → List ℕ → List ℕ → List ℕ → List ℕ → List ℕ → List ℕ → List ℕ → List ℕ → State
all_of frames pool records numbers accounts maps limits parents highest words free_queue removal_list addresses states owners free_map active updating images chip-words copies next line used =
    state_in (chip_of chip-words copies next) line frames pool records numbers accounts maps limits parents highest words free_queue removal_list addresses states owners free_map active updating images used

-- ── the tables as the code reads them ──
abbrev pub disk_read : DiskTables → Disk
disk_read d = disk_of d.records.now d.numbers.now d.accounts.now d.maps.now d.limits.now d.parents.now d.highest.now

-- the memory part but for the chip and the line
abbrev pub memory_read : List Frame → Pool → MemoryTables → Memory
memory_read frames pool m =
    memory_of frames pool m.frame_words.now m.free_queue.now m.removal_list.now m.addresses.now m.states.now m.owners.now m.free_map.now m.active.now m.updating.now m.images.now m.used.now

-- everything lent
abbrev pub all_read : List Frame → Pool → DiskTables → MemoryTables → State
all_read frames pool d m =
    all_of frames pool d.records.now d.numbers.now d.accounts.now d.maps.now d.limits.now d.parents.now d.highest.now
    m.frame_words.now m.free_queue.now m.removal_list.now m.addresses.now m.states.now m.owners.now m.free_map.now m.active.now m.updating.now m.images.now
    m.chip_words.now m.chip_records.now m.chip_next.now m.line.now m.used.now

-- .. but for the chip and the line
abbrev pub tables_read : List Frame → Pool → DiskTables → MemoryTables → State
tables_read frames pool d m =
    state_of frames pool d.records.now d.numbers.now d.accounts.now d.maps.now d.limits.now d.parents.now d.highest.now
    m.frame_words.now m.free_queue.now m.removal_list.now m.addresses.now m.states.now m.owners.now m.free_map.now m.active.now m.updating.now m.images.now m.used.now

-- the pool of a state whose pool nothing looks at
abbrev pub no_pool : Pool
no_pool = record { hand = 0; free = 0 }

-- the state of no tables: what an event sees is this with its own tables set
abbrev pub no_state : State
no_state = state_of [] no_pool [] [] [] [] [] [] [] [] [] [] [] [] [] [] [] [] [] []

-- two states are equal by their tables
pub same_state : {chip : Chip} {line : List ℕ} {f f' : List Frame} {p p' : Pool} {a a' b b' c c' d d' e e' s s' t t' g g' h h' i i' j j' k k' l l' m m' n n' o o' q q' r r' : List ℕ}
    → f ≡ f' → p ≡ p' → a ≡ a' → b ≡ b' → c ≡ c' → d ≡ d' → e ≡ e' → s ≡ s' → t ≡ t' → g ≡ g' → h ≡ h' → i ≡ i' → j ≡ j' → k ≡ k' → l ≡ l' → m ≡ m' → n ≡ n' → o ≡ o' → q ≡ q' → r ≡ r'
    → state_in chip line f p a b c d e s t g h i j k l m n o q r ≡ state_in chip line f' p' a' b' c' d' e' s' t' g' h' i' j' k' l' m' n' o' q' r'
same_state {chip} {line} ef ep ea eb ec ed ee es et eg eh ei ej ek el em en eo eq er = λ x. state_in chip line (ef x) (ep x) (ea x) (eb x) (ec x) (ed x) (ee x) (es x) (et x) (eg x) (eh x) (ei x) (ej x) (ek x) (el x) (em x) (en x) (eo x) (eq x) (er x)
