-- One setter for each table: an event is a chain of stores.
use Rattle.std.specs.Prelude.{List, ℕ, set}
use Rattle.tables.specs.Base.{tab}
use Rattle.model.specs.declared.sizes.Sizes.{Sizes}
use Rattle.model.specs.declared.frame.Frame.{Frame}
use Rattle.model.specs.State.{Disk, Core, Held, Slots, Chip, State, files, frames, map_words, used_of, free_count, free_word}

-- ── the disk part ──
abbrev pub on_disk : (Disk → Disk) → State → State
on_disk f st = record { disk = f st.disk; memory = st.memory }

abbrev pub set_records : List ℕ → Disk → Disk
set_records x d = record { records = x; numbers = d.numbers; accounts = d.accounts; maps = d.maps; limits = d.limits; parents = d.parents; highest = d.highest }

abbrev pub set_numbers : List ℕ → Disk → Disk
set_numbers x d = record { records = d.records; numbers = x; accounts = d.accounts; maps = d.maps; limits = d.limits; parents = d.parents; highest = d.highest }

abbrev pub set_accounts : List ℕ → Disk → Disk
set_accounts x d = record { records = d.records; numbers = d.numbers; accounts = x; maps = d.maps; limits = d.limits; parents = d.parents; highest = d.highest }

abbrev pub set_maps : List ℕ → Disk → Disk
set_maps x d = record { records = d.records; numbers = d.numbers; accounts = d.accounts; maps = x; limits = d.limits; parents = d.parents; highest = d.highest }

abbrev pub set_limits : List ℕ → Disk → Disk
set_limits x d = record { records = d.records; numbers = d.numbers; accounts = d.accounts; maps = d.maps; limits = x; parents = d.parents; highest = d.highest }

abbrev pub set_parents : List ℕ → Disk → Disk
set_parents x d = record { records = d.records; numbers = d.numbers; accounts = d.accounts; maps = d.maps; limits = d.limits; parents = x; highest = d.highest }

abbrev pub set_highest : List ℕ → Disk → Disk
set_highest x d = record { records = d.records; numbers = d.numbers; accounts = d.accounts; maps = d.maps; limits = d.limits; parents = d.parents; highest = x }

-- the new highest number
abbrev pub raise : ℕ → Disk → Disk
raise n d = set_highest (set d.highest 0 n) d

-- ── the memory part ──
abbrev pub on_core : (Core → Core) → State → State
on_core f st = record { disk = st.disk; memory = record { core = f st.memory.core; held = st.memory.held; slots = st.memory.slots; chip = st.memory.chip; line = st.memory.line; used = st.memory.used } }

abbrev pub on_held : (Held → Held) → State → State
on_held f st = record { disk = st.disk; memory = record { core = st.memory.core; held = f st.memory.held; slots = st.memory.slots; chip = st.memory.chip; line = st.memory.line; used = st.memory.used } }

abbrev pub on_slots : (Slots → Slots) → State → State
on_slots f st = record { disk = st.disk; memory = record { core = st.memory.core; held = st.memory.held; slots = f st.memory.slots; chip = st.memory.chip; line = st.memory.line; used = st.memory.used } }

abbrev pub set_used : List ℕ → State → State
set_used x st = record { disk = st.disk; memory = record { core = st.memory.core; held = st.memory.held; slots = st.memory.slots; chip = st.memory.chip; line = st.memory.line; used = x } }

abbrev pub set_line : List ℕ → State → State
set_line x st = record { disk = st.disk; memory = record { core = st.memory.core; held = st.memory.held; slots = st.memory.slots; chip = st.memory.chip; line = x; used = st.memory.used } }

abbrev pub set_chip : Chip → State → State
set_chip x st = record { disk = st.disk; memory = record { core = st.memory.core; held = st.memory.held; slots = st.memory.slots; chip = x; line = st.memory.line; used = st.memory.used } }

abbrev pub set_frames : List Frame → Core → Core
set_frames x c = record { frames = x; words = c.words; free_queue = c.free_queue; removal_list = c.removal_list }

abbrev pub set_words : List ℕ → Core → Core
set_words x c = record { frames = c.frames; words = x; free_queue = c.free_queue; removal_list = c.removal_list }

abbrev pub set_free_queue : List ℕ → Core → Core
set_free_queue x c = record { frames = c.frames; words = c.words; free_queue = x; removal_list = c.removal_list }

abbrev pub set_removal_list : List ℕ → Core → Core
set_removal_list x c = record { frames = c.frames; words = c.words; free_queue = c.free_queue; removal_list = x }

abbrev pub set_addresses : List ℕ → Held → Held
set_addresses x h = record { addresses = x; states = h.states; owners = h.owners; free_map = h.free_map; pool = h.pool }

abbrev pub set_states : List ℕ → Held → Held
set_states x h = record { addresses = h.addresses; states = x; owners = h.owners; free_map = h.free_map; pool = h.pool }

abbrev pub set_owners : List ℕ → Held → Held
set_owners x h = record { addresses = h.addresses; states = h.states; owners = x; free_map = h.free_map; pool = h.pool }

abbrev pub set_free_map : List ℕ → Held → Held
set_free_map x h = record { addresses = h.addresses; states = h.states; owners = h.owners; free_map = x; pool = h.pool }

abbrev pub set_hand : ℕ → Held → Held
set_hand x h = record { addresses = h.addresses; states = h.states; owners = h.owners; free_map = h.free_map; pool = record { hand = x; free = h.pool.free } }

abbrev pub set_free : ℕ → Held → Held
set_free x h = record { addresses = h.addresses; states = h.states; owners = h.owners; free_map = h.free_map; pool = record { hand = h.pool.hand; free = x } }

abbrev pub set_active : List ℕ → Slots → Slots
set_active x a = record { active = x; updating = a.updating; images = a.images }

abbrev pub set_updating : List ℕ → Slots → Slots
set_updating x a = record { active = a.active; updating = x; images = a.images }

abbrev pub set_images : List ℕ → Slots → Slots
set_images x a = record { active = a.active; updating = a.updating; images = x }

-- ── one frame's switches ──
abbrev pub set_used_switch : ℕ → Frame → Frame
set_used_switch x g = record { page = g.page; used = x; modified = g.modified; wired = g.wired; initial = g.initial; transfer = g.transfer }

abbrev pub set_modified : ℕ → Frame → Frame
set_modified x g = record { page = g.page; used = g.used; modified = x; wired = g.wired; initial = g.initial; transfer = g.transfer }

abbrev pub set_wired : ℕ → Frame → Frame
set_wired x g = record { page = g.page; used = g.used; modified = g.modified; wired = x; initial = g.initial; transfer = g.transfer }

abbrev pub set_initial : ℕ → Frame → Frame
set_initial x g = record { page = g.page; used = g.used; modified = g.modified; wired = g.wired; initial = x; transfer = g.transfer }

abbrev pub set_transfer : ℕ → Frame → Frame
set_transfer x g = record { page = g.page; used = g.used; modified = g.modified; wired = g.wired; initial = g.initial; transfer = x }

-- ── the counts ──
-- the free map, the count of free records and the used counts, by their definitions
unfoldable pub counted : Sizes → State → State
counted z st = set_used (tab z.accounts (used_of z (files st) (frames st)) 0)
    (on_held (λ h. set_free (free_count z (files st).state) (set_free_map (tab (map_words z) (free_word z (files st).state) 0) h)) st)
