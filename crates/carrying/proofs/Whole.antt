-- What the code of an import leaves is what the definition leaves.
use mathlib.Core.Path.{◌≡◌, refl, ap}
use Prim.Native.Nat.{ℕ, zero, suc}
use lib.ListN.{set}
use Rattle.tables.specs.Base.{at, if}
use Rattle.model.specs.declared.sizes.Sizes.{Sizes}
use Rattle.model.specs.Lines.{FILED}
use Rattle.model.specs.State.{Disk, State}
use Rattle.model.specs.Parts.{picked, set_part}
use Rattle.model.specs.Import.{Sheet, Taking, taking, taken, field_of, has, store_record, entry, made}
use Rattle.model.specs.Ledger.{found}
use Rattle.sheets.specs.Sheet.{printed}
use Rattle.model.specs.Export.{exported}
use Rattle.carrying.specs.Seen.{seen, records_after}
use Rattle.carrying.specs.Texts.{slot_text}

module _ (z : Sizes) (st : State) (s : ℕ) where
  abbrev st' : State
  st' = seen st.memory.held.pool.hand st.memory.held.states st.memory.held.owners

  -- a taking sees the states, the owners and the hand alone
  pub same_taking : (k : ℕ) → taking z st s k ≡ taking z st' s k
  unfolding taking
  same_taking zero = refl
  same_taking (suc k) = ap more (same_taking k)
    where
      more : Taking → Taking
      more t = let r = picked z (at t.states) st.memory.held.pool.hand t.last in record { states = set t.states r FILED; owners = set t.owners r s; last = suc r }

  pub same_taken : (k : ℕ) → taken z st s k ≡ taken z st' s k
  unfolding taken
  same_taken k = ap (λ (t : Taking). picked z (at t.states) st.memory.held.pool.hand t.last) (same_taking k)

  module _ (q n : ℕ) (h : Sheet) where
    pub same_entry : (p : ℕ) → entry z st s q n h p ≡ entry z st' s q n h p
    unfolding entry
    same_entry p = ap (λ (r : ℕ). if (has h p) (suc r) 0) (same_taken (field_of h p))

    -- the records after the first k stores
    pub same_records : (k : ℕ) (d : Disk) → (made z st s q n h k d).records ≡ records_after z st' s h k d.records
    unfolding made store_record records_after
    same_records zero d = refl
    same_records (suc k) d = (λ i. set_part z (same_taken k i) (h.word k) (same_records k d i))

-- the sheet that the code prints is the definition's
pub same_sheet : (z : Sizes) (st : State) (s : ℕ) → printed z.words z.pages (at st.disk.numbers s) (slot_text z.pages z.words s st.disk.records st.disk.maps) ≡ exported z st s
unfolding exported found
same_sheet z st s = refl
