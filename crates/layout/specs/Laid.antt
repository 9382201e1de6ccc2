-- The disk part in home sectors: the header, then each table in sectors of its own; and the disk part that is read back.
use Rattle.std.specs.Prelude.{List, ◌∷◌, ℕ, zero, suc, ◌+◌, ◌-◌, ◌*◌, ltb, replicate}
use Rattle.tables.specs.Base.{if, find}
use Rattle.journal.specs.Device.{Content, Sectors}
use Rattle.model.specs.declared.sizes.Sizes.{Sizes}
use Rattle.model.specs.State.{Disk}
use Rattle.layout.specs.Rows.{per_row, row_sector, read_rows}

-- ── the header: two words of magic, the version, the sizes that belong to a disk, then zeros. F and B are no part of a disk. ──
abbrev pub MAGIC1 : ℕ
MAGIC1 = 0x5045454B

abbrev pub MAGIC2 : ℕ
MAGIC2 = 0x4B534944

abbrev pub VERSION : ℕ
VERSION = 5

unfoldable pub header : Sizes → Content
header z = MAGIC1 ∷ MAGIC2 ∷ VERSION ∷ z.words ∷ z.records ∷ z.slots ∷ z.pages ∷ z.accounts ∷ replicate 120 0

-- ── the tables: a record is a row of W words, a map a row of N entries, every other table is one row ──
pub data Table : Type 0 where
  records : Table
  maps : Table
  numbers : Table
  accounts : Table
  limits : Table
  parents : Table
  highest : Table

-- their order on the disk, and back
unfoldable pub place : Table → ℕ
place records = 0
place maps = 1
place numbers = 2
place accounts = 3
place limits = 4
place parents = 5
place highest = 6

unfoldable pub table : ℕ → Table
table zero = records
table (suc zero) = maps
table (suc (suc zero)) = numbers
table (suc (suc (suc zero))) = accounts
table (suc (suc (suc (suc zero)))) = limits
table (suc (suc (suc (suc (suc zero))))) = parents
table (suc (suc (suc (suc (suc (suc k)))))) = highest

module _ (z : Sizes) where
  -- how many entries a row has
  unfoldable pub width : Table → ℕ
  width records = z.words
  width maps = z.pages
  width numbers = z.slots
  width accounts = z.slots
  width limits = z.accounts
  width parents = z.accounts
  width highest = 1

  -- how many rows
  unfoldable pub rows : Table → ℕ
  rows records = z.records
  rows maps = z.slots
  rows numbers = 1
  rows accounts = 1
  rows limits = 1
  rows parents = 1
  rows highest = 1

  abbrev pub sectors_of : Table → ℕ
  sectors_of t = rows t * per_row (width t)

  -- how many sectors the first k tables and the header before them take
  unfoldable pub before : ℕ → ℕ
  before zero = 1
  before (suc k) = before k + sectors_of (table k)

  -- where a table begins
  abbrev pub begins : Table → ℕ
  begins t = before (place t)

  -- how many home sectors there are
  unfoldable pub room : ℕ
  room = before 7

  -- which table has a sector behind the header
  unfoldable pub table_at : ℕ → Table
  table_at x = table (find 6 (λ k. ltb x (before (suc k))) 0)

-- a table of the disk part
unfoldable pub table_of : Disk → Table → List ℕ
table_of d records = d.records
table_of d maps = d.maps
table_of d numbers = d.numbers
table_of d accounts = d.accounts
table_of d limits = d.limits
table_of d parents = d.parents
table_of d highest = d.highest

-- ── the disk part as sectors, and back ──
-- What home sector x holds.
unfoldable pub laid : Sizes → Disk → Sectors
laid z d x = let t = table_at z x in if (ltb x 1) (header z) (row_sector (width z t) (table_of d t) (x - begins z t))

-- a table as it is read back
unfoldable pub read_table : Sizes → Sectors → Table → List ℕ
read_table z f t = read_rows (width z t) (rows z t * width z t) (λ y. f (begins z t + y))

-- the disk part as it is read back
unfoldable pub read_disk : Sizes → Sectors → Disk
read_disk z f = record {
  records = read_table z f records;
  numbers = read_table z f numbers;
  accounts = read_table z f accounts;
  maps = read_table z f maps;
  limits = read_table z f limits;
  parents = read_table z f parents;
  highest = read_table z f highest;
}
