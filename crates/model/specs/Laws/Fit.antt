-- Question 1 as records of statements: the sizes within their limits, and the length of every table.
use Rattle.std.specs.Prelude.{◌≡◌, ◌*◌, ◌<◌, length}
use Rattle.tables.specs.Rule.{Holds}
use Rattle.model.specs.declared.sizes.Sizes.{Sizes}
use Rattle.model.specs.Sizes.{sizes_fit}
use Rattle.model.specs.State.{Disk, Memory, Chip, State, LINE, all_pages, map_words}
use Rattle.model.specs.Step.{disk_lengths, table_lengths, chip_lengths, all_fit}

-- each size is above 0 and at most its limit
pub record Within (z : Sizes) : Type 0 where
  pub words : 0 < z.words
  pub words_most : z.words < 1025
  pub records : 0 < z.records
  pub records_most : z.records < 4097
  pub frames : 0 < z.frames
  pub frames_most : z.frames < 65
  pub slots : 0 < z.slots
  pub slots_most : z.slots < 65
  pub pages : 0 < z.pages
  pub pages_most : z.pages < 257
  pub accounts : 0 < z.accounts
  pub accounts_most : z.accounts < 17
  pub chip : 0 < z.chip
  pub chip_most : z.chip < 257

pub record DiskFit (z : Sizes) (d : Disk) : Type 0 where
  pub records : length d.records ≡ z.records * z.words
  pub numbers : length d.numbers ≡ z.slots
  pub accounts : length d.accounts ≡ z.slots
  pub maps : length d.maps ≡ all_pages z
  pub limits : length d.limits ≡ z.accounts
  pub parents : length d.parents ≡ z.accounts
  pub highest : length d.highest ≡ 1

pub record MemoryFit (z : Sizes) (m : Memory) : Type 0 where
  pub frames : length m.core.frames ≡ z.frames
  pub words : length m.core.words ≡ z.frames * z.words
  pub free_queue : length m.core.free_queue ≡ z.frames
  pub removal_list : length m.core.removal_list ≡ z.frames
  pub addresses : length m.held.addresses ≡ all_pages z
  pub states : length m.held.states ≡ z.records
  pub owners : length m.held.owners ≡ z.records
  pub free_map : length m.held.free_map ≡ map_words z
  pub active : length m.slots.active ≡ z.slots
  pub updating : length m.slots.updating ≡ z.slots
  pub images : length m.slots.images ≡ all_pages z
  pub line : length m.line ≡ LINE
  pub used : length m.used ≡ z.accounts

pub record ChipFit (z : Sizes) (k : Chip) : Type 0 where
  pub words : length k.words ≡ z.chip * z.words
  pub copies : length k.copies ≡ z.chip
  pub next : length k.next ≡ 1

-- all lengths but the chip's
pub record Fit (z : Sizes) (st : State) : Type 0 where
  pub sizes : Within z
  pub disk : DiskFit z st.disk
  pub memory : MemoryFit z st.memory

pub within : (z : Sizes) → Holds (sizes_fit z) → Within z
within z (a, (b, (c, (d, (e, (f, g)))))) = record {
  words = a.0;
  words_most = a.1;
  records = b.0;
  records_most = b.1;
  frames = c.0;
  frames_most = c.1;
  slots = d.0;
  slots_most = d.1;
  pages = e.0;
  pages_most = e.1;
  accounts = f.0;
  accounts_most = f.1;
  chip = g.0;
  chip_most = g.1;
}

pub sizes_fit_holds : (z : Sizes) → Within z → Holds (sizes_fit z)
sizes_fit_holds z h = ((h.words, h.words_most), ((h.records, h.records_most), ((h.frames, h.frames_most), ((h.slots, h.slots_most), ((h.pages, h.pages_most), ((h.accounts, h.accounts_most), (h.chip, h.chip_most)))))))

pub disk_fit : (z : Sizes) (d : Disk) → Holds (disk_lengths z d) → DiskFit z d
disk_fit z d (a, (b, (c, (e, (f, (g, h)))))) = record { records = a; numbers = b; accounts = c; maps = e; limits = f; parents = g; highest = h }

pub fit_disk : (z : Sizes) (d : Disk) → DiskFit z d → Holds (disk_lengths z d)
fit_disk z d h = (h.records, (h.numbers, (h.accounts, (h.maps, (h.limits, (h.parents, h.highest))))))

pub memory_fit : (z : Sizes) (m : Memory) → Holds (table_lengths z m) → MemoryFit z m
memory_fit z m (a, (b, (c, (d, (e, (f, (g, (h, (i, (j, (k, (n, l)))))))))))) = record {
  frames = a;
  words = b;
  free_queue = c;
  removal_list = d;
  addresses = e;
  states = f;
  owners = g;
  free_map = h;
  active = i;
  updating = j;
  images = k;
  line = n;
  used = l;
}

pub fit_memory : (z : Sizes) (m : Memory) → MemoryFit z m → Holds (table_lengths z m)
fit_memory z m h = (h.frames, (h.words, (h.free_queue, (h.removal_list, (h.addresses, (h.states, (h.owners, (h.free_map, (h.active, (h.updating, (h.images, (h.line, h.used))))))))))))

pub chip_fit : (z : Sizes) (k : Chip) → Holds (chip_lengths z k) → ChipFit z k
chip_fit z k h = record { words = h.0; copies = h.1.0; next = h.1.1 }

pub fit_chip : (z : Sizes) (k : Chip) → ChipFit z k → Holds (chip_lengths z k)
fit_chip z k h = (h.words, (h.copies, h.next))

pub fit : (z : Sizes) (st : State) → Holds (all_fit z st) → Fit z st
unfolding all_fit
fit z st (a, (b, c)) = record { sizes = within z a; disk = disk_fit z st.disk b; memory = memory_fit z st.memory c.0 }

-- the chip's part
pub chip_fits : (z : Sizes) (st : State) → Holds (all_fit z st) → ChipFit z st.memory.chip
unfolding all_fit
chip_fits z st (a, (b, c)) = chip_fit z st.memory.chip c.1

pub all_fit_holds : (z : Sizes) (st : State) → Fit z st → ChipFit z st.memory.chip → Holds (all_fit z st)
unfolding all_fit
all_fit_holds z st h k = (sizes_fit_holds z h.sizes, (fit_disk z st.disk h.disk, (fit_memory z st.memory h.memory, fit_chip z st.memory.chip k)))
