-- A sector as bytes: "numbers low byte first on every processor".
use Rattle.std.specs.Prelude.{List, ℕ, zero, suc, ◌+◌, ◌*◌, ◌/◌, ◌%◌}
use Rattle.tables.specs.Base.{at, tab}
use Rattle.journal.specs.Device.{Content, sector_words}

-- how many bytes a sector has
abbrev pub sector_bytes : ℕ
sector_bytes = 512

-- byte b of a number: byte 0 is the lowest
unfoldable pub byte_of : ℕ → ℕ → ℕ
byte_of v zero = v % 256
byte_of v (suc b) = byte_of (v / 256) b

-- a sector's bytes: four for each word, the low byte first
unfoldable pub bytes_of : Content → List ℕ
bytes_of c = tab sector_bytes (λ i. byte_of (at c (i / 4)) (i % 4)) 0

-- the number of four bytes from place i on
unfoldable pub number_at : List ℕ → ℕ → ℕ
number_at s i = at s i + at s (i + 1) * 256 + at s (i + 2) * 65536 + at s (i + 3) * 16777216

-- a sector's words, of its bytes
unfoldable pub words_of : List ℕ → Content
words_of s = tab sector_words (λ j. number_at s (4 * j)) 0
