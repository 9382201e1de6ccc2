-- The header sector: for which sizes it is filled, what a look at it finds, and the sizes that it says.
use Rattle.std.specs.Prelude.{ℕ, ◌+◌, ◌-◌, eqb}
use Rattle.tables.specs.Base.{at, if}
use Rattle.tables.specs.Rule.{Rule, same, ◌and◌, each, test}
use Rattle.model.specs.declared.sizes.Sizes.{Sizes}
use Rattle.model.specs.Sizes.{sizes_fit, sizes_of}
use Rattle.journal.specs.Device.{Content, sector_words}
use Rattle.layout.specs.Laid.{MAGIC1, MAGIC2, VERSION}
use Rattle.disk.specs.declared.header.Header.{Header}
use Rattle.disk.specs.declared.header.Header.TheVariants.{Ours, Blank, Foreign, OtherVersion, OtherSizes}
use Rattle.disk.specs.declared.header.Said.{Said}

-- The sizes that belong to a disk are within their limits; whatever F and B are.
abbrev pub disk_fits : Sizes → Rule
disk_fits z = sizes_fit (sizes_of z.words z.records 1 z.slots z.pages z.accounts 1)

-- the answer of a call that asks for them: 0, or 1, the keeper's number for sizes out of limits
abbrev pub fit_answer : Sizes → ℕ
fit_answer z = if (test (disk_fits z)) 0 1

-- ── the look ──
-- every word from place k on is zero
abbrev pub zeros_from : ℕ → Content → Rule
zeros_from k c = each (sector_words - k) (λ i. same (at c (k + i)) 0)

-- the sizes in a header are these
abbrev pub sizes_in : Sizes → Content → Rule
sizes_in z c = same (at c 3) z.words and same (at c 4) z.records and same (at c 5) z.slots and same (at c 6) z.pages and same (at c 7) z.accounts

-- What a look finds, whatever stands there: a disk of these sizes, or the first reason why not.
unfoldable pub looked_at : Sizes → Content → Header
looked_at z c =
    let sizes = if (test (sizes_in z c)) Ours OtherSizes in
    let behind = if (test (zeros_from 8 c)) sizes Foreign in
    let version = if (eqb (at c 2) VERSION) behind OtherVersion in
    let magic = if (eqb (at c 0) MAGIC1) (if (eqb (at c 1) MAGIC2) version Foreign) Foreign in
    if (test (zeros_from 0 c)) Blank magic

-- the number for C of each case
abbrev pub header_number : Header → ℕ
header_number Ours = 0
header_number Blank = 1
header_number Foreign = 2
header_number OtherVersion = 3
header_number OtherSizes = 4

-- ── the sizes that it says ──
abbrev pub sizes_said : Content → Sizes
sizes_said c = sizes_of (at c 3) (at c 4) 0 (at c 5) (at c 6) (at c 7) 0

abbrev pub said_none : ℕ → Said
said_none refusal = record { refusal = refusal; words = 0; records = 0; slots = 0; pages = 0; accounts = 0 }

abbrev pub said_of : Sizes → Said
said_of z = record { refusal = 0; words = z.words; records = z.records; slots = z.slots; pages = z.pages; accounts = z.accounts }

-- Refused: whatever a look refuses, by its number, and 5 for sizes out of limits.
unfoldable pub said_by : ℕ → Sizes → Said
said_by found z = if (eqb found 0) (if (test (disk_fits z)) (said_of z) (said_none 5)) (said_none found)

unfoldable pub said : Content → Said
said c = said_by (header_number (looked_at (sizes_said c) c)) (sizes_said c)
