-- What questions 1 and 2 give that these events rest on.
use Rattle.std.specs.Prelude.{◌≡◌, List, ◌⊎◌, ℕ, suc, ◌*◌, ◌<◌, ◌≤◌, pred, T, length}
use Rattle.tables.specs.Base.{at}
use Rattle.tables.specs.Queue.{queue, size, members, times}
use Rattle.tables.specs.Rule.{Holds}
use Rattle.tables.specs.TimesLaws.{Once}
use Rattle.model.specs.declared.sizes.Sizes.{Sizes}
use Rattle.model.specs.declared.frame.Frame.{Frame}
use Rattle.model.specs.Lines.{NULLED, LIVE, RELEASED, allowed}
use Rattle.model.specs.State.{NONE, frame_at, slot_of, all_pages}
use Rattle.model.specs.Rules.{once}
use Rattle.leaves.specs.FreeMap.{free_map_table}
use Rattle.leaves.specs.Payers.{who_pays}
use Rattle.writeback.specs.Pages.{charges_from}

-- ── of several events ──
-- the sizes for a pass over a slot's pages
pub record Sized (z : Sizes) : Type 0 where
  pub frames_most : z.frames < 65
  pub pages_some : 0 < z.pages
  pub pages_most : z.pages < 257
  pub slots_most : z.slots < 65

-- both queues are queues of the n frames
pub record Queues (n : ℕ) (free list : List ℕ) : Type 0 where
  pub free_long : length free ≡ n
  pub free_packed : Holds (queue n free)
  pub list_long : length list ≡ n
  pub list_packed : Holds (queue n list)

-- no frame is in a queue twice, none with a page in the free queue, and no page in two frames
pub record Placed (n : ℕ) (fs : List Frame) (free list : List ℕ) : Type 0 where
  pub free_once : Once n (members free)
  pub list_once : Once n (members list)
  pub unqueued : (f : ℕ) → f < n → 0 < (frame_at fs f).page → times (members free) f ≡ 0
  pub seated : (f g : ℕ) → f < n → g < n → 0 < (frame_at fs f).page → (frame_at fs g).page ≡ (frame_at fs f).page → f ≡ g

-- a page's address names a record, and no other page's does
pub record Addressed (z : Sizes) (addresses states : List ℕ) : Type 0 where
  pub long : length addresses ≡ all_pages z
  pub inside : (i r : ℕ) → i < all_pages z → at addresses i ≡ suc r → r < length states
  pub held_once_holds : Holds (once (all_pages z) (at addresses))

-- ── claim ──
-- a frame in the removal list: its page's record, who pays for it if it is modified, and room for it in the free queue
pub record Listed (z : Sizes) (page modified : ℕ) (accounts limits parents free addresses states used : List ℕ) : Type 0 where
  pub item : ℕ
  pub named : 0 < page
  pub holds : at addresses (pred page) ≡ suc item
  pub inside : item < length states
  pub moves : (at states item ≡ NULLED) ⊎ (at states item ≡ LIVE)
  pub room : size free < z.frames
  pub pays : modified ≡ 1 → 0 < at used (who_pays accounts limits parents (slot_of z (pred page)))

-- every frame in the removal list can be freed
pub record Claimable (z : Sizes) (fs : List Frame) (accounts limits parents words free list addresses states used : List ℕ) : Type 0 where
  pub frames_most : z.frames < 65
  pub pages_some : 0 < z.pages
  pub words_long : length words ≡ z.frames * z.words
  pub listed : (f : ℕ) → f < z.frames → 0 < times (members list) f → Listed z (frame_at fs f).page (frame_at fs f).modified accounts limits parents free addresses states used

-- ── truncate ──
-- the records that pages hold may be released
pub record Releasable (z : Sizes) (addresses states : List ℕ) : Type 0 where
  pub along : (i r : ℕ) → i < all_pages z → at addresses i ≡ suc r → T (allowed (at states r) RELEASED)

-- who pays for a slot is charged with its charged pages
pub record Paid (z : Sizes) (fs : List Frame) (accounts limits parents addresses states used : List ℕ) : Type 0 where
  pub enough : (s k : ℕ) → s < z.slots → charges_from z.frames z.pages s k fs addresses states ≤ at used (who_pays accounts limits parents s)

-- ── page done ──
-- a frame in transfer: its page's record, and room for it in both queues
pub record InTransfer (z : Sizes) (page : ℕ) (free list addresses states : List ℕ) : Type 0 where
  pub index : ℕ
  pub item : ℕ
  pub named : page ≡ suc index
  pub holds : at addresses index ≡ suc item
  pub inside : item < z.records
  pub moves : (at states item ≡ NULLED) ⊎ (at states item ≡ LIVE)
  pub free_room : size free < z.frames
  pub list_room : size list < z.frames

-- every transfer can end
pub record Transfers (z : Sizes) (fs : List Frame) (records words free list addresses states : List ℕ) : Type 0 where
  pub words_some : 0 < z.words
  pub words_most : z.words < 1025
  pub frames_most : z.frames < 65
  pub records_most : z.records < 4097
  pub records_long : length records ≡ z.records * z.words
  pub words_long : length words ≡ z.frames * z.words
  pub moving : (f : ℕ) → f < z.frames → ¬ ((frame_at fs f).transfer ≡ NONE) → InTransfer z (frame_at fs f).page free list addresses states

-- ── map done ──
-- a map and an image entry for each page, a state and a slot for each record, and the free map that of the states
pub record Mapped (z : Sizes) (maps states owners map images : List ℕ) : Type 0 where
  pub pages_some : 0 < z.pages
  pub records_most : z.records < 4097
  pub maps_long : length maps ≡ all_pages z
  pub images_long : length images ≡ all_pages z
  pub states_long : length states ≡ z.records
  pub owners_long : length owners ≡ z.records
  pub told : map ≡ free_map_table z (at states)
