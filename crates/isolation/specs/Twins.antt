-- Two boards, alike at the start, and the same list but for the values written into one design, the hidden one, which is named by its birth.
use Rattle.std.specs.Prelude.{◌≡◌, Bool, List, [], ◌∷◌, ℕ}
use Rattle.tables.specs.Base.{at}
use Rattle.tables.specs.Rule.{Rule, each, named, Holds}
use Rattle.model.specs.declared.sizes.Sizes.{Sizes}
use Rattle.model.specs.declared.event.Page.TheVariants.{Write}
use Rattle.model.specs.declared.event.Event.TheVariants as Event
use Rattle.model.specs.State.{Disk, Memory, all_pages, slot_of}
use Rattle.model.specs.Stores.{Call}
use Rattle.model.specs.Ledger.{pack_design}
use Rattle.model.specs.Acts.{Act, event, cutting, cutting_in, World, act}
use Rattle.isolation.specs.Words.{bare_disk, part_like}

-- ── Give two boards, alike at the start, .. ──
-- the words of each listed record, by the design that lists it: the other designs' are the same, the hidden one's zero on both or on neither
unfoldable pub packs_like : Sizes → ℕ → Disk → Disk → Rule
packs_like z hidden pack pack' = each (all_pages z) λ i. named (at pack.maps i) λ r. part_like z hidden (pack_design pack (slot_of z i)) pack.records pack'.records r

-- their packs have the same tables, and these words
pub record AlikePacks (z : Sizes) (hidden : ℕ) (pack pack' : Disk) : Type 0 where
  pub tables : bare_disk pack ≡ bare_disk pack'
  pub words : Holds (packs_like z hidden pack pack')

-- ── .. the same list of demand 3, .. ──
-- of: each slot's design
pub data Twin (hidden : ℕ) (of : ℕ → ℕ) : Act → Act → Type 0 where
  -- Imports get the same sheets.
  both : (a : Act) → Twin hidden of a a
  -- .. except that the values written into one design differ, with each value zero on both or on neither.
  written : (s p k x y : ℕ) → of s ≡ hidden → (x ≡ 0 → y ≡ 0) → (y ≡ 0 → x ≡ 0) → Twin hidden of (event (Event.Page (Write s p k x))) (event (Event.Page (Write s p k y)))
  -- Cuts fall alike, the same transfers landing; the memory after one holds anything, on each board its own.
  cut : (writes updates : ℕ → Bool) (m m' : Memory) → Twin hidden of (cutting writes updates m) (cutting writes updates m')
  cut_in : (c : Call) (k : ℕ) (writes updates : ℕ → Bool) (m m' : Memory) → Twin hidden of (cutting_in c k writes updates m) (cutting_in c k writes updates m')

-- act by act; a write's design is the one that its slot has as the act comes
abbrev pub Twins : Sizes → ℕ → World → List Act → List Act → Type 0
Twins z hidden w [] [] = Unit {0}
Twins z hidden w [] (b ∷ bs) = ⊥
Twins z hidden w (a ∷ acts) [] = ⊥
Twins z hidden w (a ∷ acts) (b ∷ bs) = Twin hidden w.ledger.design a b × Twins z hidden (act z w a) acts bs
