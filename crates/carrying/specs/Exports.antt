-- Export over the tables that it reads: what it needs of them, and what it hands back.
use Rattle.std.specs.Prelude.{◌≡◌, List, ℕ, suc, ◌*◌, ◌<◌, length}
use Rattle.tables.specs.Base.{at}
use Rattle.tables.specs.Questions.{first_no}
use Rattle.sheets.specs.Sheet.{laid}
use Rattle.model.specs.declared.sizes.Sizes.{Sizes}
use Rattle.model.specs.declared.event.Answer.{Answer}
use Rattle.model.specs.State.{State, all_pages}
use Rattle.model.specs.Setters.{on_disk, on_slots, set_records, set_numbers, set_maps, set_active}
use Rattle.model.specs.Lent.{Table, no_state}
use Rattle.model.specs.Questions.{export_questions}
use Rattle.model.specs.Step.{Outcome, outcome}
use Rattle.model.specs.Export.{exported}
use Rattle.model.specs.Laws.Fit.{Within}

-- the tables that it looks at, as a state
abbrev pub seen_export : List ℕ → List ℕ → List ℕ → List ℕ → State
seen_export records numbers maps active = on_disk (λ d. set_records records (set_numbers numbers (set_maps maps d))) (on_slots (set_active active) no_state)

abbrev pub entered_export : Table → Table → Table → Table → State
entered_export records numbers maps active = seen_export records.entry.now numbers.entry.now maps.entry.now active.entry.now

-- what questions 1 and 2 give that it rests on
pub record Exporting (z : Sizes) (records maps : List ℕ) : Type 0 where
  pub sizes : Within z
  pub records_long : length records ≡ z.records * z.words
  pub maps_long : length maps ≡ all_pages z
  pub listed : (i : ℕ) → i < all_pages z → (r : ℕ) → at maps i ≡ suc r → r < z.records

abbrev pub handed : Answer → List ℕ → Outcome (List ℕ)
handed answer buffer = record { answer = answer; left = buffer }

-- by its own questions, once 1 and 2 are asked
unfoldable pub export_of : Sizes → State → ℕ → List ℕ → Outcome (List ℕ)
export_of z st s buffer = let sheet = exported z st s in outcome (first_no (export_questions z st s (length sheet) (length buffer))) (length sheet) buffer (laid buffer 0 sheet)
