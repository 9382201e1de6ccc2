-- Claim: what it leaves of the used counts, and what its looks are given and leave.
use Rattle.std.specs.Prelude.{◌≡◌, List, ℕ, suc, ◌-◌, ◌<◌, pred, eqb, length, set}
use Rattle.tables.specs.Base.{at, if}
use Rattle.tables.specs.Queue.{queue, size, members, packed, first, pop}
use Rattle.tables.specs.Questions.{first_no}
use Rattle.tables.specs.Rule.{Holds}
use Rattle.model.specs.declared.sizes.Sizes.{Sizes}
use Rattle.model.specs.declared.frame.Frame.{Frame}
use Rattle.model.specs.State.{State, files, frames, slot_of, payer}
use Rattle.model.specs.Questions.{questions}
use Rattle.model.specs.Writeback.{look, looking, begins_write}
use Rattle.model.specs.Step.{outcome}
use Rattle.leaves.specs.Packed.{unpacked}
use Rattle.writeback.specs.Seen.{claim}

-- who pays for the page in a frame
abbrev pub payer_of : Sizes → State → ℕ → ℕ
payer_of z st f = payer (files st) (slot_of z (pred ((frames st).frame f).page))

-- the used counts once the claim is carried out: one charge less where the frame freed was modified
unfoldable pub used_then : Sizes → State → List ℕ
used_then z st =
    let f = (looking z st).taken in let u = st.memory.used in
    if (begins_write z st) u
    (if (eqb ((frames st).frame f).modified 1) (set u (payer_of z st f) (at u (payer_of z st f) - 1)) u)

-- .. and carried out or not
abbrev pub used_left : Sizes → State → List ℕ
used_left z st = (outcome (first_no (questions z st claim)) 0 st.memory.used (used_then z st)).left

-- the frames and the list as the looks leave them: the first entry is the one taken
pub record LooksEnded (fs : List Frame) (list : List ℕ) (kept : List Frame) (looks : ℕ) (list' : List ℕ) : Type 0 where
  pub the_looks : looks ≡ (look (suc (size list)) 0 fs (members list)).looks
  pub the_frames : kept ≡ (look (suc (size list)) 0 fs (members list)).frames
  pub the_taken : first list' ≡ (look (suc (size list)) 0 fs (members list)).taken
  pub the_list : pop list' ≡ packed (length list) (look (suc (size list)) 0 fs (members list)).list
  pub ruled : Holds (queue (length list') list')
  pub taken_some : 0 < size list'

-- .. what they are given and leave
abbrev pub LooksGiven : List ℕ → Type 0
LooksGiven list = Holds (queue (length list) list) × (0 < size list) × (length list < 65)

abbrev pub LooksLeft : (frames list frames' list' : List ℕ) → ℕ → Type 0
LooksLeft frames list frames' list' looks = LooksEnded (unpacked frames) list (unpacked frames') looks list'
