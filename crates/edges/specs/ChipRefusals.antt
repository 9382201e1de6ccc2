-- What question 1 and question 2 want of the chip, by computation: its size, its tables' lengths, and for each of its rules tables that no other rule refuses.
use Rattle.std.specs.Prelude.{◌≡◌, refl, List, [], ◌∷◌, ◌++◌, ℕ}
use Rattle.model.specs.declared.sizes.Sizes.{Sizes}
use Rattle.model.specs.State.{Chip, State}
use Rattle.model.specs.Setters.{set_chip}
use Rattle.model.specs.Step
use Rattle.edges.specs.Lists.{restart, truncate, update, fault, says, leaves}
use Rattle.edges.specs.Edges.{opened, listing}
use Rattle.edges.specs.Refusals.{two, judged, found, empty, listed, resting}
use Rattle.edges.specs.ChipEdges.{holds}

-- the event program's sizes, but for B
abbrev chips : ℕ → Sizes
chips b = record { words = 2; records = 4; frames = 2; slots = 2; pages = 3; accounts = 1; chip = b }

-- a chip with nothing in it whose tables have these words, places and next places
abbrev lengths : List ℕ → List ℕ → List ℕ → Chip
lengths w c n = record { words = w; copies = c; next = n }

-- record 0 nulled, released, leaving
abbrev nulled : State
nulled = leaves two (opened 2)

abbrev released : State
released = leaves two (listing ++ truncate 0 0 ∷ [])

abbrev leaving : State
leaving = leaves two (listing ++ truncate 0 0 ∷ update 0 ∷ [])

pub record ChipRefused : Type 0 where
  -- 1. B = 0 gives 1; 1 and 256 pass; 257 gives 1.
  size_none : says (chips 0) (restart ∷ []) ≡ 1 ∷ 0 ∷ []
  size_least : says (chips 1) (restart ∷ []) ≡ 0 ∷ 0 ∷ []
  size_most : says (chips 256) (restart ∷ []) ≡ 0 ∷ 0 ∷ []
  size_more : says (chips 257) (restart ∷ []) ≡ 1 ∷ 0 ∷ []
  -- Every slice of its exact length; the other rules are kept. A restart asks it too.
  words_short : judged (set_chip (lengths (0 ∷ 0 ∷ 0 ∷ []) (0 ∷ 0 ∷ []) (0 ∷ [])) empty) ≡ 1 ∷ []
  words_long : judged (set_chip (lengths (0 ∷ 0 ∷ 0 ∷ 0 ∷ 0 ∷ []) (0 ∷ 0 ∷ []) (0 ∷ [])) empty) ≡ 1 ∷ []
  copies_short : judged (set_chip (lengths (0 ∷ 0 ∷ 0 ∷ 0 ∷ []) (0 ∷ []) (0 ∷ [])) empty) ≡ 1 ∷ []
  copies_long : judged (set_chip (lengths (0 ∷ 0 ∷ 0 ∷ 0 ∷ []) (0 ∷ 0 ∷ 0 ∷ []) (0 ∷ [])) empty) ≡ 1 ∷ []
  next_none : judged (set_chip (lengths (0 ∷ 0 ∷ 0 ∷ 0 ∷ []) (0 ∷ 0 ∷ []) []) empty) ≡ 1 ∷ []
  next_long : judged (set_chip (lengths (0 ∷ 0 ∷ 0 ∷ 0 ∷ []) (0 ∷ 0 ∷ []) (0 ∷ 0 ∷ [])) empty) ≡ 1 ∷ []
  words_restart : found (set_chip (lengths (0 ∷ 0 ∷ 0 ∷ []) (0 ∷ 0 ∷ []) (0 ∷ [])) empty) ≡ 1 ∷ []
  -- 2. The next place below B.
  next_fit : judged (set_chip (holds 0 0 0 0 0 0 2) empty) ≡ 2 ∷ 43 ∷ []
  next_fit_right : judged (set_chip (holds 0 0 0 0 0 0 1) empty) ≡ 0 ∷ []
  -- No record twice.
  copy_once : judged (set_chip (holds 1 0 9 1 0 9 1) listed) ≡ 2 ∷ 44 ∷ []
  -- Empty places hold zeros.
  copy_empty : judged (set_chip (holds 0 0 0 0 0 1 1) empty) ≡ 2 ∷ 45 ∷ []
  -- Each copy equal to its live record: a free record, a filed, a nulled, a released and a leaving one, one past R; other words. It may stand at any place, whatever is next.
  copy_live_state : judged (set_chip (holds 0 0 0 3 0 0 1) listed) ≡ 2 ∷ 46 ∷ []
  copy_live_filed : judged (set_chip (holds 1 0 9 0 0 0 1) resting) ≡ 2 ∷ 46 ∷ []
  copy_live_nulled : judged (set_chip (holds 1 0 0 0 0 0 1) nulled) ≡ 2 ∷ 46 ∷ []
  copy_live_released : judged (set_chip (holds 1 0 9 0 0 0 1) released) ≡ 2 ∷ 46 ∷ []
  copy_live_leaving : judged (set_chip (holds 1 0 9 0 0 0 1) leaving) ≡ 2 ∷ 46 ∷ []
  copy_live_past : judged (set_chip (holds 0 0 0 9 0 0 1) listed) ≡ 2 ∷ 46 ∷ []
  copy_live_words : judged (set_chip (holds 1 0 8 0 0 0 1) listed) ≡ 2 ∷ 46 ∷ []
  copy_live_right : judged (set_chip (holds 0 0 0 1 0 9 1) listed) ≡ 0 ∷ []
  -- Restart asks none of these.
  unasked : found (set_chip (holds 1 0 8 1 0 7 2) resting) ≡ 0 ∷ []

pub chip_refused : ChipRefused
unfolding says leaves judged found
chip_refused = record {
  size_none = refl;
  size_least = refl;
  size_most = refl;
  size_more = refl;
  words_short = refl;
  words_long = refl;
  copies_short = refl;
  copies_long = refl;
  next_none = refl;
  next_long = refl;
  words_restart = refl;
  next_fit = refl;
  next_fit_right = refl;
  copy_once = refl;
  copy_empty = refl;
  copy_live_state = refl;
  copy_live_filed = refl;
  copy_live_nulled = refl;
  copy_live_released = refl;
  copy_live_leaving = refl;
  copy_live_past = refl;
  copy_live_words = refl;
  copy_live_right = refl;
  unasked = refl;
}
