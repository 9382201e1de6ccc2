-- A sector's entries put into a table, one sector after another: what a table is after its sectors were read.
use Rattle.std.specs.Prelude.{List, ℕ, zero, suc}
use Rattle.tables.specs.Base.{at, if}
use Rattle.tables.specs.Rule.{Rule, below, same, ◌and◌, each, test}
use Rattle.tables.specs.Store.{store}
use Rattle.journal.specs.Device.{Content, Sectors, sector_words}
use Rattle.layout.specs.Rows.{sector_of, word_of}

-- of a table with rows of n entries: entry i is in sector y; in none where a row has no entries
abbrev pub in_sector : ℕ → ℕ → ℕ → Rule
in_sector n y i = below 0 n and same (sector_of n i) y

-- the table with the entries of its sector y as content c has them
unfoldable pub taken : ℕ → ℕ → Content → List ℕ → List ℕ
taken n y c table = store table (in_sector n y) (λ i. at c (word_of n i))

-- .. and of its first k sectors, one after another
unfoldable pub taken_all : ℕ → Sectors → ℕ → List ℕ → List ℕ
taken_all n f zero table = table
taken_all n f (suc k) table = taken n k (f k) (taken_all n f k table)

-- every word of a sector fits an entry of 16 bits
abbrev pub halves : Content → Rule
halves c = each sector_words (λ j. below (at c j) 65536)

-- what a table of such entries is, and the answer: 1, and nothing is taken, where one does not fit
unfoldable pub taken_halves : ℕ → ℕ → Content → List ℕ → List ℕ
taken_halves n y c table = if (test (halves c)) (taken n y c table) table

abbrev pub halves_answer : Content → ℕ
halves_answer c = if (test (halves c)) 0 1
