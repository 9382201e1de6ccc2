-- A table of rows in sectors: an entry takes a word, and each row begins a sector of its own.
use Rattle.std.specs.Prelude.{List, ℕ, ◌+◌, ◌*◌, ◌/◌, ◌%◌, ltb}
use Rattle.tables.specs.Base.{at, if, tab}
use Rattle.journal.specs.Device.{Content, Sectors, sector_words}

-- how many sectors a row of n entries takes
unfoldable pub per_row : ℕ → ℕ
per_row n = (n + 127) / 128

-- Of a table with rows of n entries: which of its sectors has entry i, and which word of that sector.
unfoldable pub sector_of : ℕ → ℕ → ℕ
sector_of n i = i / n * per_row n + i % n / 128

unfoldable pub word_of : ℕ → ℕ → ℕ
word_of n i = i % n % 128

-- Its sector y: piece y % per_row n of row y / per_row n, and zeros behind the row's end.
unfoldable pub row_sector : ℕ → List ℕ → ℕ → Content
row_sector n table y = tab sector_words (λ j. let k = y % per_row n * 128 + j in if (ltb k n) (at table (y / per_row n * n + k)) 0) 0

-- The table read back from its sectors: how many entries it has, and its sectors.
unfoldable pub read_rows : ℕ → ℕ → Sectors → List ℕ
read_rows n count f = tab count (λ i. at (f (sector_of n i)) (word_of n i)) 0

-- the sectors of row r
unfoldable pub row_sectors : ℕ → ℕ → List ℕ
row_sectors n r = tab (per_row n) (λ p. r * per_row n + p) 0
