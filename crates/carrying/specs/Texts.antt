-- A page's words by the entry that lists it, and its field in a sheet.
use Rattle.std.specs.Prelude.{◌≡◌, List, [], ℕ, suc, pred, ◌+◌, ◌*◌, ◌<◌, ◌≤◌, eqb, length}
use Rattle.tables.specs.Base.{at, if}
use Rattle.tables.specs.Rule.{test}
use Rattle.sheets.specs.Sheet.{blank, page_field}

-- zeros where nothing is listed
abbrev pub text_of : ℕ → List ℕ → ℕ → ℕ → ℕ
text_of w records entry j = if (eqb entry 0) 0 (at records (pred entry * w + j))

-- the entry's record is within the table
abbrev pub Listed : ℕ → ℕ → List ℕ → Type 0
Listed w entry records = (r : ℕ) → entry ≡ suc r → r * w + w ≤ length records

-- a page's field, if it is not all zeros
unfoldable pub shown_text : ℕ → ℕ → (ℕ → ℕ) → List ℕ
shown_text w p word = if (test (blank w word)) [] (page_field w p word)

-- the pages of a slot, by its map
abbrev pub slot_text : ℕ → ℕ → ℕ → List ℕ → List ℕ → ℕ → ℕ → ℕ
slot_text pages w slot records maps p = text_of w records (at maps (slot * pages + p))

-- what printing a slot needs: sizes within limits, a map whose entries are within the records
pub record Printing (pages w slot : ℕ) (records maps : List ℕ) : Type 0 where
  pub words : 0 < w
  pub words_most : w < 1025
  pub pages_most : pages < 257
  pub maps_long : slot * pages + pages ≤ length maps
  pub listed : (p : ℕ) → p < pages → Listed w (at maps (slot * pages + p)) records
