-- What the layout is to do: the claims about the disk part in sectors.
use Rattle.std.specs.Prelude.{◌≡◌, List, [], ◌∷◌, ◌⊎◌, ℕ, ◌<◌, ◌≤◌, length}
use Rattle.tables.specs.Rule.{Holds}
use Rattle.journal.specs.Device.{Sectors, sector_words}
use Rattle.model.specs.declared.sizes.Sizes.{Sizes}
use Rattle.model.specs.Sizes.{sizes_fit, sizes_of}
use Rattle.model.specs.State.{Disk, State, frames, NONE}
use Rattle.model.specs.Rules.{all_rules}
use Rattle.model.specs.Writeback.{record_in}
use Rattle.model.specs.Step.{disk_lengths}
use Rattle.model.specs.Restart.{raised}
use Rattle.model.specs.Stores.{Call, made}
use Rattle.layout.specs.Rows.{per_row}
use Rattle.layout.specs.Laid.{Table, records, highest, header, width, rows, room, laid, read_disk}
use Rattle.layout.specs.Touched.{row_at, touched}

-- the number is in the list
abbrev pub In : ℕ → List ℕ → Type 0
In x [] = ⊥
In x (y ∷ ys) = (x ≡ y) ⊎ In x ys

-- What is read back is what was laid down, for all sizes: whatever lies past the home sectors.
abbrev pub ReadBack : Type 0
ReadBack = (z : Sizes) (d : Disk) (f : Sectors) → Holds (sizes_fit z) → Holds (disk_lengths z d) → ((x : ℕ) → x < room z → f x ≡ laid z d x) → read_disk z f ≡ d

-- The sectors named are all that a store changes: every other home sector is as it was, whatever the disk part.
abbrev pub Covers : Sizes → List ℕ → (Disk → Disk) → Type 0
Covers z xs f = (d : Disk) (x : ℕ) → x < room z → ¬ In x xs → laid z (f d) x ≡ laid z d x

-- as many lists of sectors as stores, and each covers its store
abbrev pub CoversAll : Sizes → List (List ℕ) → List (Disk → Disk) → Type 0
CoversAll z [] [] = Unit {0}
CoversAll z [] (f ∷ fs) = ⊥
CoversAll z (xs ∷ xss) [] = ⊥
CoversAll z (xs ∷ xss) (f ∷ fs) = Covers z xs f × CoversAll z xss fs

-- Of every call in every state, the sectors touched cover the stores made, one by one.
abbrev pub Covered : Type 0
Covered = (z : Sizes) → Holds (sizes_fit z) → (st : State) (c : Call) → CoversAll z (touched z st c) (made z st c)

-- Restart's own one store, the highest number, touches that table's sector.
abbrev pub RestartCovered : Type 0
RestartCovered = (z : Sizes) → Holds (sizes_fit z) → Covers z (row_at z highest 0) (raised z)

-- Two rows that share a sector are one row of one table: so no two tables share a sector, and no two records, no two maps, and no record and map do.
abbrev pub Apart : Type 0
Apart = (z : Sizes) → Holds (sizes_fit z) → (t t' : Table) (r r' x : ℕ) → r < rows z t → r' < rows z t' → In x (row_at z t r) → In x (row_at z t' r') → (t ≡ t') × (r ≡ r')

-- The records of two frames in transfer at once share no sector, in every state that keeps the rules.
abbrev pub TransfersApart : Type 0
TransfersApart = (z : Sizes) → Holds (sizes_fit z) → (st : State) → Holds (all_rules z st) → (f g x : ℕ) → f < z.frames → g < z.frames → ¬ (f ≡ g)
    → ¬ (((frames st).frame f).transfer ≡ NONE) → ¬ (((frames st).frame g).transfer ≡ NONE) → In x (row_at z records (record_in z st f)) → ¬ In x (row_at z records (record_in z st g))

-- Every row stands behind the header, in the home sectors.
abbrev pub Inside : Type 0
Inside = (z : Sizes) → Holds (sizes_fit z) → (t : Table) (r x : ℕ) → r < rows z t → In x (row_at z t r) → (0 < x) × (x < room z)

-- The header says the sizes that belong to a disk.
abbrev pub HeaderSays : Type 0
HeaderSays = (z z' : Sizes) → header z ≡ header z'
    → (z.words ≡ z'.words) × (z.records ≡ z'.records) × (z.slots ≡ z'.slots) × (z.pages ≡ z'.pages) × (z.accounts ≡ z'.accounts)

-- And F and B are no part of a disk: with others of them it has the same header, the same sectors, and is read back the same.
abbrev pub OtherFrames : Type 0
OtherFrames = (w r f f' s n q b b' : ℕ) → let z = sizes_of w r f s n q b in let z' = sizes_of w r f' s n q b' in
    (header z ≡ header z') × (room z ≡ room z') × ((d : Disk) (x : ℕ) → laid z d x ≡ laid z' d x) × ((g : Sectors) → read_disk z g ≡ read_disk z' g)

-- Every home sector has its 128 words.
abbrev pub LaidWhole : Type 0
LaidWhole = (z : Sizes) (d : Disk) (x : ℕ) → length (laid z d x) ≡ sector_words

-- A row takes at most 8 sectors, and all home sectors are at most 32,902.
abbrev pub Small : Type 0
Small = (z : Sizes) → Holds (sizes_fit z) → ((t : Table) → per_row (width z t) ≤ 8) × (room z ≤ 32902)

-- what holds of each list of sectors
abbrev pub EachList : (List ℕ → Type 0) → List (List ℕ) → Type 0
EachList P [] = Unit {0}
EachList P (xs ∷ xss) = P xs × EachList P xss

-- No store touches more than 8 sectors: far fewer than the 125 that an entry of the journal has words for.
abbrev pub TouchedFew : Type 0
TouchedFew = (z : Sizes) → Holds (sizes_fit z) → (st : State) (c : Call) → EachList (λ xs. length xs ≤ 8) (touched z st c)

-- Every sector that a call touches is a home sector behind the header.
abbrev pub TouchedInside : Type 0
TouchedInside = (z : Sizes) → Holds (sizes_fit z) → (st : State) (c : Call) → EachList (λ xs. (x : ℕ) → In x xs → (0 < x) × (x < room z)) (touched z st c)
