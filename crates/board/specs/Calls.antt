-- What calls store, entry by entry: an entry of the journal is the home sectors that it writes, and the disk part that it leaves.
use Rattle.std.specs.Prelude.{Bool, true, false, List, [], ◌∷◌, ◌++◌, ℕ, eqb}
use Rattle.tables.specs.Base.{at, if}
use Rattle.model.specs.declared.sizes.Sizes.{Sizes}
use Rattle.model.specs.State.{Disk, State}
use Rattle.model.specs.Setters.{raise}
use Rattle.model.specs.Step.{step, restart}
use Rattle.model.specs.Import.{import}
use Rattle.model.specs.Stores as S
use Rattle.model.specs.Stores.{made}
use Rattle.model.specs.Acts.{Act, event, looking, importing, exporting, restarting, cutting, cutting_in}
use Rattle.journal.specs.Layout.{Store}
use Rattle.layout.specs.Laid.{highest, laid}
use Rattle.layout.specs.Touched.{row_at, touched}

-- an entry of the journal, for the keeper
pub record Entry : Type 0 where
  pub sectors : List ℕ
  pub disk : Disk

-- .. and for the journal: these home sectors, as that disk part has them
unfoldable pub written : Sizes → Disk → List ℕ → Store
written z d [] = []
written z d (x ∷ xs) = record { place = x; words = laid z d x } ∷ written z d xs

-- ── the stores of a call, and the sectors of each ──
-- a restart has one, where it raises the highest number
abbrev raised_to : Sizes → State → ℕ
raised_to z st = at (restart z st).left.disk.highest 0

unfoldable pub raises : Sizes → State → Bool
raises z st = if (eqb (raised_to z st) (at st.disk.highest 0)) false true

unfoldable pub stores_of : Sizes → State → Act → List (Disk → Disk)
stores_of z st (event e) = made z st (S.event e)
stores_of z st (importing s q n b) = made z st (S.importing s q n b)
stores_of z st restarting = if (raises z st) (raise (raised_to z st) ∷ []) []
stores_of z st (looking s p) = []
stores_of z st (exporting s buffer) = []
stores_of z st (cutting writes updates junk) = []
stores_of z st (cutting_in c k writes updates junk) = []

unfoldable pub sectors_of : Sizes → State → Act → List (List ℕ)
sectors_of z st (event e) = touched z st (S.event e)
sectors_of z st (importing s q n b) = touched z st (S.importing s q n b)
sectors_of z st restarting = if (raises z st) (row_at z highest 0 ∷ []) []
sectors_of z st (looking s p) = []
sectors_of z st (exporting s buffer) = []
sectors_of z st (cutting writes updates junk) = []
sectors_of z st (cutting_in c k writes updates junk) = []

-- ── a call with an entry for each store ──
unfoldable pub in_turn : Disk → List (List ℕ) → List (Disk → Disk) → List Entry
in_turn d [] fs = []
in_turn d (xs ∷ xss) [] = []
in_turn d (xs ∷ xss) (f ∷ fs) = record { sectors = xs; disk = f d } ∷ in_turn (f d) xss fs

unfoldable pub entries_of : Sizes → State → Act → List Entry
entries_of z st a = in_turn st.disk (sectors_of z st a) (stores_of z st a)

-- ── calls whose stores are one entry ──
-- the tables after a call
unfoldable pub left_by : Sizes → State → Act → State
left_by z st (event e) = (step z st e).left
left_by z st (importing s q n b) = (import z st s q n b).left
left_by z st restarting = (restart z st).left
left_by z st (looking s p) = st
left_by z st (exporting s buffer) = st
left_by z st (cutting writes updates junk) = st
left_by z st (cutting_in c k writes updates junk) = st

unfoldable pub joined : List (List ℕ) → List ℕ
joined [] = []
joined (xs ∷ xss) = xs ++ joined xss

unfoldable pub together : Sizes → State → List Act → Entry
together z st [] = record { sectors = []; disk = st.disk }
together z st (a ∷ acts) = let rest = together z (left_by z st a) acts in record { sectors = joined (sectors_of z st a) ++ rest.sectors; disk = rest.disk }
