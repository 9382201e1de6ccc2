-- What two boards are compared by: all tables but the words, and when two words are alike.
use Rattle.std.specs.Prelude.{ℕ, List, []}
use Rattle.tables.specs.Rule.{Rule, same, non, ◌and◌, ◌then◌, each}
use Rattle.model.specs.declared.sizes.Sizes.{Sizes}
use Rattle.model.specs.State.{Disk, Chip, State}
use Rattle.model.specs.Setters.{on_disk, on_core, set_records, set_words, set_chip}
use Rattle.model.specs.Parts.{word_at}

-- a chip with other words
abbrev pub set_copied : List ℕ → Chip → Chip
set_copied ws k = record { words = ws; copies = k.copies; next = k.next }

-- a disk part, a chip and a state without their words
abbrev pub bare_disk : Disk → Disk
bare_disk d = set_records [] d

abbrev pub bare_chip : Chip → Chip
bare_chip k = set_copied [] k

abbrev pub bare : State → State
bare st = on_disk bare_disk (on_core (set_words []) (set_chip (bare_chip st.memory.chip) st))

-- A word of the hidden design is zero on both boards or on neither; any other design's is the same on both.
abbrev pub like : ℕ → ℕ → ℕ → ℕ → Rule
like hidden design a b = (same design hidden then (same a 0 then same b 0) and (same b 0 then same a 0)) and (non (same design hidden) then same a b)

-- the words of record or frame r, which belongs to a design, in two tables of words
abbrev pub part_like : Sizes → ℕ → ℕ → List ℕ → List ℕ → ℕ → Rule
part_like z hidden design xs ys r = each z.words λ k. like hidden design (word_at z xs r k) (word_at z ys r k)
