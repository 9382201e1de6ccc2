-- Truncate: what it asks of frames, what its passes are given and leave, and what it leaves of the used counts.
use Rattle.std.specs.Prelude.{◌≡◌, ◌&&◌, List, ◌++◌, map, ℕ, zero, suc, ◌+◌, ◌-◌, ◌*◌, ◌<◌, ◌≤◌, T, leb, length, set}
use Rattle.tables.specs.Base.{at, count, those}
use Rattle.tables.specs.Queue.{members, packed, without}
use Rattle.tables.specs.Questions.{Questions, none, ask, first_no}
use Rattle.tables.specs.Rule.{Rule, Holds, same, below, non, each, ◌and◌, ◌then◌, test}
use Rattle.tables.specs.Store.{Split}
use Rattle.model.specs.declared.sizes.Sizes.{Sizes}
use Rattle.model.specs.declared.frame.Frame.{Frame}
use Rattle.model.specs.State.{State, frame_at, no_frame, files, frames, page_of, all_pages, charged, payer}
use Rattle.model.specs.Lines.{RELEASED, allowed}
use Rattle.model.specs.Parts.{from_page}
use Rattle.model.specs.Rules.{once}
use Rattle.model.specs.Questions.{questions}
use Rattle.model.specs.Step.{outcome}
use Rattle.leaves.specs.FrameLaws.{frame_in, is_still, is_unwired}
use Rattle.writeback.specs.Pages.{framed}
use Rattle.writeback.specs.Needs.{Queues, Placed}
use Rattle.writeback.specs.Seen.{truncate}

-- what questions 14 and 16 ask of a frame, by number
abbrev pub quiet : ℕ → Frame → Rule
quiet zero g = is_still g
quiet (suc n) g = is_unwired g

-- .. of every frame of the pages from k up
abbrev pub all_quiet : ℕ → ℕ → ℕ → ℕ → ℕ → List Frame → Rule
all_quiet which n pages s k fs = each pages λ p. non (below p k) then each n λ f. same (frame_at fs f).page (suc (s * pages + p)) then quiet which (frame_at fs f)

-- .. and asked
abbrev pub ask_frames : ℕ → ℕ → ℕ → ℕ → List Frame → Questions
ask_frames n pages s k fs = ask 14 (all_quiet 0 n pages s k fs) (ask 16 (all_quiet 1 n pages s k fs) none)

-- a frame whose page is one of the slot's, from k up to m
abbrev pub cut_frame : ℕ → ℕ → ℕ → ℕ → Frame → Rule
cut_frame pages s k m g = below (s * pages + k) g.page and below g.page (suc (s * pages + m))

-- none of the first n frames has one of the slot's pages from k up
abbrev pub NoneCut : ℕ → ℕ → ℕ → ℕ → List Frame → Type 0
NoneCut n pages s k fs = (f : ℕ) → f < n → ¬ Holds (cut_frame pages s k pages (frame_at fs f))

-- the frames of the slot's pages from k up to m, in page order
abbrev pub cut_frames : ℕ → ℕ → ℕ → ℕ → List Frame → ℕ → List ℕ
cut_frames n pages s k fs m = map (λ p. frame_in n fs (s * pages + p)) (those m (λ p. leb k p && test (framed n fs (s * pages + p))) 0)

-- ── the passes over the slot's pages from k up ──
-- the sizes that each is given
pub record CutGiven (n pages s k : ℕ) : Type 0 where
  pub most : n < 65
  pub pages_most : pages < 257
  pub slots_most : s < 65
  pub from : k ≤ pages

-- what the frames and the queues keep, for the pass that frees
pub record Cutting (n pages s k : ℕ) (fs : List Frame) (free list : List ℕ) : Type 0 where
  pub sized : CutGiven n pages s k
  pub queues : Queues n free list
  pub placed : Placed n fs free list

-- .. as the pass is given them
abbrev pub FramesGiven : ℕ → ℕ → ℕ → ℕ → List Frame → List ℕ → List ℕ → Type 0
FramesGiven = Cutting

-- .. and what the pass leaves: the frames join the free queue's end, in page order, and leave the removal list
abbrev pub FramesLeft : ℕ → ℕ → ℕ → ℕ → List Frame → (free list free' list' : List ℕ) → Type 0
FramesLeft n pages s k fs free list free' list' =
    (free' ≡ packed (length free) (members free ++ cut_frames n pages s k fs pages))
    × (list' ≡ packed (length list) (without (λ f. test (cut_frame pages s k pages (frame_at fs f))) (members list)))

-- what the pass over the pages themselves is given: no two pages hold one record, and each record held may be released
pub record Releasing (z : Sizes) (s k : ℕ) (states addresses : List ℕ) : Type 0 where
  pub pages_some : 0 < z.pages
  pub from : k ≤ z.pages
  pub inside : s * z.pages + z.pages ≤ all_pages z
  pub addresses_long : length addresses ≡ all_pages z
  pub held_once_holds : Holds (once (all_pages z) (at addresses))
  pub along : (i r : ℕ) → Holds (from_page z s k i) → at addresses i ≡ suc r → (r < length states) × T (allowed (at states r) RELEASED)

-- the pass that clears leaves each frame of these pages with no page, and the others as they were
abbrev pub ClearedLeft : ℕ → ℕ → ℕ → ℕ → List Frame → List Frame → Type 0
ClearedLeft n pages s k fs kept = (length kept ≡ length fs) × ((f : ℕ) → f < n → Split (Holds (cut_frame pages s k pages (frame_at fs f))) (frame_at kept f) no_frame (frame_at fs f))

-- ── the used counts ──
-- the used counts once the truncate is carried out: one charge less for each charged page that is cut off
unfoldable pub used_then : Sizes → State → ℕ → ℕ → List ℕ
used_then z st s k =
    let q = payer (files st) s in let u = st.memory.used in
    set u q (at u q - count z.pages (λ p. leb k p && test (charged z (files st) (frames st) (page_of z s p))))

-- .. and carried out or not
abbrev pub used_left : Sizes → State → ℕ → ℕ → List ℕ
used_left z st s k = (outcome (first_no (questions z st (truncate s k))) 0 st.memory.used (used_then z st s k)).left
