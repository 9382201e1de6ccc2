-- The stores that a call makes to the disk itself, in order, so that a cut can fall between them.
use Rattle.std.specs.Prelude.{List, [], ◌∷◌, ◌++◌, ℕ, zero, suc, eqb, length, set}
use Rattle.tables.specs.Base.{if, tab}
use Rattle.sheets.specs.Sheet.{count_in}
use Rattle.model.specs.declared.sizes.Sizes.{Sizes}
use Rattle.model.specs.declared.event.Design.{Design}
use Rattle.model.specs.declared.event.Design.TheVariants.{Create, Delete, Activate, Deactivate}
use Rattle.model.specs.declared.event.Account.{Account}
use Rattle.model.specs.declared.event.Account.TheVariants.{Limit, Move}
use Rattle.model.specs.declared.event.Writeback.{Writeback}
use Rattle.model.specs.declared.event.Writeback.TheVariants.{Claim, Truncate, Update, PageDone, MapDone}
use Rattle.model.specs.declared.event.Event.{Event}
use Rattle.model.specs.State.{Disk, State, frames, READING}
use Rattle.model.specs.Setters.{set_numbers, set_accounts, set_limits, raise}
use Rattle.model.specs.Accounts.{shifted}
use Rattle.model.specs.Writeback.{store_frame, store_image}
use Rattle.model.specs.Import.{sheet_of, store_record, store_slot, import_answer}
use Rattle.model.specs.Step.{answer}

-- the disk after the first k of some stores
unfoldable pub first : ℕ → List (Disk → Disk) → Disk → Disk
first zero fs d = d
first (suc k) [] d = d
first (suc k) (f ∷ fs) d = first k fs (f d)

-- and after all of them
abbrev pub all_of : List (Disk → Disk) → Disk → Disk
all_of fs d = first (length fs) fs d

-- a refused call stores nothing
abbrev pub by_answer : ℕ → List (Disk → Disk) → List (Disk → Disk)
by_answer zero fs = fs
by_answer (suc n) fs = []

-- the calls that can store
pub data Call : Type 0 where
  event : Event → Call
  -- slot, account, number, sheet
  importing : ℕ → ℕ → ℕ → List ℕ → Call

module _ (z : Sizes) (st : State) where
  -- number and account of a slot are one store
  abbrev fill_slot : ℕ → ℕ → ℕ → Disk → Disk
  fill_slot s q n d = set_numbers (set d.numbers s n) (set_accounts (set d.accounts s q) d)

  abbrev design_stores : Design → List (Disk → Disk)
  design_stores (Create s q n) = raise n ∷ fill_slot s q n ∷ []
  design_stores (Delete s) = fill_slot s 0 0 ∷ []
  design_stores (Activate s) = []
  design_stores (Deactivate s) = []

  -- the limits table is one store
  abbrev account_stores : Account → List (Disk → Disk)
  account_stores (Limit q n) = (λ d. set_limits (set d.limits q n) d) ∷ []
  account_stores (Move g t m) = (λ d. set_limits (shifted d.limits g t m) d) ∷ []

  -- a good done of a write or an update: its store is the transfer's own, which landed before it was reported
  abbrev writeback_stores : Writeback → List (Disk → Disk)
  writeback_stores Claim = []
  writeback_stores (Truncate s k) = []
  writeback_stores (Update s) = []
  writeback_stores (PageDone f good) = if (eqb ((frames st).frame f).transfer READING) [] (if (eqb good 1) (store_frame z st f ∷ []) [])
  writeback_stores (MapDone s good) = if (eqb good 1) (store_image z st s ∷ []) []

  abbrev event_stores : Event → List (Disk → Disk)
  event_stores (Event.Design e) = design_stores e
  event_stores (Event.Account e) = account_stores e
  event_stores (Event.Page e) = []
  event_stores (Event.Writeback e) = writeback_stores e
  event_stores (Event.Waiting e) = []

  -- the stores of a call that is carried out, in order: it runs these and stores nothing otherwise
  unfoldable pub stores : Call → List (Disk → Disk)
  stores (event e) = event_stores e
  stores (importing s q n b) = raise n ∷ tab (count_in b) (store_record z st s q n (sheet_of b)) 0 ++ store_slot z st s q n (sheet_of b) ∷ []

  unfoldable pub answered : Call → ℕ
  answered (event e) = answer z st e
  answered (importing s q n b) = import_answer z st s q n b

  unfoldable pub made : Call → List (Disk → Disk)
  made c = by_answer (answered c) (stores c)
