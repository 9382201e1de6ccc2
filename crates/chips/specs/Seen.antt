-- What the contracts of this crate cite: the chip of its tables, its lengths, one copy dropped, what a frame that awaits words needs, the rule of one place.
use Rattle.std.specs.Prelude.{List, [], ◌≡◌, ℕ, ◌+◌, ◌*◌, ◌<◌, length, set}
use Rattle.tables.specs.Base.{if}
use Rattle.tables.specs.Queue.{queue, size}
use Rattle.tables.specs.Rule.{Rule, Holds, same, ◌and◌, ◌then◌, each, named, test}
use Rattle.model.specs.declared.sizes.Sizes.{Sizes}
use Rattle.model.specs.declared.frame.Frame.{Frame}
use Rattle.model.specs.Lines.{LIVE}
use Rattle.model.specs.State.{Chip, State, frame_at, READING}
use Rattle.model.specs.Setters.{on_core, on_held, set_frames, set_words, set_removal_list, set_addresses}
use Rattle.model.specs.Lent.{chip_of, no_state}
use Rattle.model.specs.Parts.{set_part}
use Rattle.model.specs.Chip.{has_copy, place_of}
use Rattle.model.specs.Laws.Fit.{Within}

abbrev pub chip_given : List ℕ → List ℕ → List ℕ → Chip
chip_given words copies next = chip_of words copies next

abbrev pub chip_entered : List ℕ → List ℕ → List ℕ → Chip
chip_entered words copies next = chip_of words copies next

abbrev pub chip_left : List ℕ → List ℕ → List ℕ → Chip
chip_left words copies next = chip_of words copies next

-- the lengths of the places' words and of the copies
pub record Places (z : Sizes) (ws cs : List ℕ) : Type 0 where
  pub words : length ws ≡ z.chip * z.words
  pub copies : length cs ≡ z.chip

-- the copy of one record goes, if it has one
abbrev pub dropped : Sizes → ℕ → Chip → Chip
dropped z r k = let b = place_of z k r in if (test (has_copy z k r)) (record { words = set_part z b (λ w. 0) k.words; copies = set k.copies b 0; next = k.next }) k

-- ── a fault's frame takes a copy ──
-- the chip, whatever place is next
abbrev pub chip_by : List ℕ → List ℕ → Chip
chip_by words copies = chip_of words copies []

-- the tables that it reads and changes, as a state
abbrev pub seen_take : List Frame → List ℕ → List ℕ → List ℕ → State
seen_take frames words list addresses = on_core (λ c. set_frames frames (set_words words (set_removal_list list c))) (on_held (set_addresses addresses) no_state)

abbrev pub entered_take : List Frame → List ℕ → List ℕ → List ℕ → State
entered_take frames words list addresses = seen_take frames words list addresses

-- what questions 1 and 2 give of the frame: where it is being read it has a page, and there is room for it in the removal list
pub record Awaiting (z : Sizes) (f : ℕ) (fs : List Frame) (ws list cws cs : List ℕ) : Type 0 where
  pub sizes : Within z
  pub inside : f < z.frames
  pub words : length ws ≡ z.frames * z.words
  pub list_long : length list ≡ z.frames
  pub list_packed : Holds (queue z.frames list)
  pub places : Places z cws cs
  pub paged : (frame_at fs f).transfer ≡ READING → 0 < (frame_at fs f).page
  pub room : (frame_at fs f).transfer ≡ READING → size list < z.frames

-- ── what question 2 asks ──
-- the lengths of the records' words, of their states and of the places' words
pub record Kept (z : Sizes) (rs ss cws : List ℕ) : Type 0 where
  pub sizes : Within z
  pub records : length rs ≡ z.records * z.words
  pub states : length ss ≡ z.records
  pub words : length cws ≡ z.chip * z.words

-- a place with its entry: zeros where it is empty, else a live record's words
abbrev pub place_kept : Sizes → (ℕ → ℕ) → (ℕ → ℕ) → (ℕ → ℕ) → ℕ → ℕ → Rule
place_kept z state recordWord word b entry = (same entry 0 then each z.words λ w. same (word (b * z.words + w)) 0)
    and named entry λ r. same (state r) LIVE and each z.words λ w. same (word (b * z.words + w)) (recordWord (r * z.words + w))
