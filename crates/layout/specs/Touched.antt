-- Which home sectors each store of a call changes: no others need to be written for it.
use Rattle.std.specs.Prelude.{List, [], ◌∷◌, ◌++◌, ℕ, zero, suc, ◌+◌, ◌*◌, eqb}
use Rattle.tables.specs.Base.{if, tab}
use Rattle.sheets.specs.Sheet.{count_in}
use Rattle.model.specs.declared.sizes.Sizes.{Sizes}
use Rattle.model.specs.declared.event.Design.{Design}
use Rattle.model.specs.declared.event.Design.TheVariants.{Create, Delete, Activate, Deactivate}
use Rattle.model.specs.declared.event.Account.{Account}
use Rattle.model.specs.declared.event.Writeback.{Writeback}
use Rattle.model.specs.declared.event.Writeback.TheVariants.{Claim, Truncate, Update, PageDone, MapDone}
use Rattle.model.specs.declared.event.Event.{Event}
use Rattle.model.specs.declared.event.Event.TheVariants as Event
use Rattle.model.specs.State.{State, frames, READING}
use Rattle.model.specs.Writeback.{record_in}
use Rattle.model.specs.Import.{taken}
use Rattle.model.specs.Stores.{Call, event, importing, answered}
use Rattle.layout.specs.Rows.{per_row}
use Rattle.layout.specs.Laid.{Table, records, maps, numbers, accounts, limits, highest, width, begins}

module _ (z : Sizes) where
  -- the sectors of row r of a table
  unfoldable pub row_at : Table → ℕ → List ℕ
  row_at t r = tab (per_row (width z t)) (λ p. begins z t + (r * per_row (width z t) + p)) 0

  -- all sectors of a table that has one row
  abbrev whole : Table → List ℕ
  whole t = row_at t 0

  -- a slot: its number and its account
  abbrev slot_sectors : List ℕ
  slot_sectors = whole numbers ++ whole accounts

module _ (z : Sizes) (st : State) where
  abbrev design_touches : Design → List (List ℕ)
  design_touches (Create s q n) = whole z highest ∷ slot_sectors z ∷ []
  design_touches (Delete s) = slot_sectors z ∷ []
  design_touches (Activate s) = []
  design_touches (Deactivate s) = []

  abbrev writeback_touches : Writeback → List (List ℕ)
  writeback_touches Claim = []
  writeback_touches (Truncate s k) = []
  writeback_touches (Update s) = []
  writeback_touches (PageDone f good) = if (eqb ((frames st).frame f).transfer READING) [] (if (eqb good 1) (row_at z records (record_in z st f) ∷ []) [])
  writeback_touches (MapDone s good) = if (eqb good 1) (row_at z maps s ∷ []) []

  abbrev event_touches : Event → List (List ℕ)
  event_touches (Event.Design e) = design_touches e
  event_touches (Event.Account e) = whole z limits ∷ []
  event_touches (Event.Page e) = []
  event_touches (Event.Writeback e) = writeback_touches e
  event_touches (Event.Waiting e) = []

  -- of a call that is carried out, for each of its stores in order (Stores.stores)
  unfoldable pub touches : Call → List (List ℕ)
  touches (event e) = event_touches e
  touches (importing s q n b) = whole z highest ∷ tab (count_in b) (λ k. row_at z records (taken z st s k)) 0 ++ (whole z numbers ++ whole z accounts ++ row_at z maps s) ∷ []

  -- a refused call stores nothing
  abbrev pub by_answer : ℕ → List (List ℕ) → List (List ℕ)
  by_answer zero xs = xs
  by_answer (suc n) xs = []

  unfoldable pub touched : Call → List (List ℕ)
  touched c = by_answer (answered z st c) (touches c)
