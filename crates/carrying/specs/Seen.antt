-- The tables that the functions of an import see, as a state; what they need of them, and what the pages of a sheet leave.
use Rattle.std.specs.Prelude.{◌≡◌, List, ℕ, zero, suc, ◌+◌, ◌*◌, ◌<◌, ◌≤◌, length, set}
use Rattle.tables.specs.Base.{at}
use Rattle.model.specs.declared.sizes.Sizes.{Sizes}
use Rattle.model.specs.State.{State, free_count, all_pages}
use Rattle.model.specs.Setters.{on_disk, on_held, set_numbers, set_limits, set_parents, set_highest, set_states, set_owners, set_hand, set_free, set_used}
use Rattle.model.specs.Parts.{set_part}
use Rattle.model.specs.Lent.{no_state}
use Rattle.model.specs.Laws.Fit.{Within}
use Rattle.model.specs.Import.{Sheet, taken}
use Rattle.leaves.specs.FreeMap.{free_map_table}
use Rattle.sheets.specs.Sheet.{words_in, pages_in, count_in, place_of}
use Rattle.sheets.specs.Laws.Formed.{Formed}

-- what the choice of records looks at
abbrev pub seen : ℕ → List ℕ → List ℕ → State
seen hand states owners = on_held (λ h. set_hand hand (set_states states (set_owners owners h))) no_state

-- what the questions look at
abbrev pub seen_asked : ℕ → List ℕ → List ℕ → List ℕ → List ℕ → List ℕ → State
seen_asked free numbers limits parents highest used =
    on_disk (λ d. set_numbers numbers (set_limits limits (set_parents parents (set_highest highest d)))) (on_held (set_free free) (set_used used no_state))

module _ (z : Sizes) (st : State) (s : ℕ) (h : Sheet) where
  -- the records once the first k pages are stored, one store each
  unfoldable pub records_after : ℕ → List ℕ → List ℕ
  records_after zero rs = rs
  records_after (suc k) rs = set_part z (taken z st s k) (h.word k) (records_after k rs)

  -- the entries that list them
  unfoldable pub entries_after : ℕ → List ℕ → List ℕ
  entries_after zero es = es
  entries_after (suc k) es = set (entries_after k es) (h.page k) (suc (taken z st s k))

-- what the choice of a record needs: a hand within the records, a map that tells the states, a free record
pub record Choice (z : Sizes) (hand last : ℕ) (states map : List ℕ) : Type 0 where
  pub sizes : Within z
  pub hand_below : hand < z.records
  pub last_small : last < 65536
  pub states_long : length states ≡ z.records
  pub told : map ≡ free_map_table z (at states)
  pub some : 0 < free_count z (at states)

-- what one page needs beside it: its field within the sheet
pub record Page (z : Sizes) (hand : ℕ) (sheet : List ℕ) (k last : ℕ) (records states map : List ℕ) : Type 0 where
  pub choice : Choice z hand last states map
  pub few : k < 65536
  pub words : z.words ≡ words_in sheet
  pub room : place_of sheet k + (5 + 4 * z.words) ≤ length sheet
  pub records_long : length records ≡ z.records * z.words

-- what the loop over the pages needs: lengths, records enough, a sheet of the board's W that is as long as its pages
pub record Carrying (z : Sizes) (hand : ℕ) (sheet : List ℕ) (count : ℕ) (records states owners map : List ℕ) : Type 0 where
  pub sizes : Within z
  pub hand_below : hand < z.records
  pub records_long : length records ≡ z.records * z.words
  pub states_long : length states ≡ z.records
  pub owners_long : length owners ≡ z.records
  pub told : map ≡ free_map_table z (at states)
  pub enough : count ≤ free_count z (at states)
  pub words : z.words ≡ words_in sheet
  pub room : place_of sheet count ≤ length sheet

-- a sheet of the form, of the board's N, of so many pages; the maps' length
pub record Sheeted (z : Sizes) (sheet : List ℕ) (count : ℕ) (maps : List ℕ) : Type 0 where
  pub formed : Formed sheet
  pub count_is : count ≡ count_in sheet
  pub pages : z.pages ≡ pages_in sheet
  pub maps_long : length maps ≡ all_pages z
