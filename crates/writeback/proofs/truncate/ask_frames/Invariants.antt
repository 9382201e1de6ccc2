use mathlib.Core.Path.{◌≡◌}
use mathlib.Core.Bool.{Bool, true, false}
use mathlib.Core.Logic.{◌⊎◌}
use mathlib.Core.List.{List}
use Prim.Native.Nat.{ℕ, ◌+◌, ◌*◌, ◌<◌, ◌≤◌}
use Rattle.tables.specs.Rule.{Holds}
use Rattle.model.specs.declared.frame.Frame.{Frame}
use Rattle.model.specs.State.{frame_at}
use Rattle.leaves.specs.Packed.{unpacked}
use Rattle.writeback.specs.Truncate.{quiet}
use Rattle.writeback.proofs.truncate.ask_frames.Given as goal

-- a frame has one of the slot's pages from k up
abbrev pub Cut : ℕ → ℕ → ℕ → Frame → Type 0
Cut pages slot k g = (slot * pages + k < g.page) × (g.page ≤ slot * pages + pages)

-- the frames below f are quiet
abbrev pub QuietBelow : ℕ → ℕ → ℕ → ℕ → List Frame → ℕ → Type 0
QuietBelow w pages slot k fs f = (i : ℕ) → i < f → Cut pages slot k (frame_at fs i) → Holds (quiet w (frame_at fs i))

-- the frames below f are asked
pub record AskedBelow (pages slot k : ℕ) (fs : List Frame) (f : ℕ) (w : Bool) : Type 0 where
  pub still : QuietBelow 0 pages slot k fs f
  pub wired : ((w ≡ false) × QuietBelow 1 pages slot k fs f) ⊎ ((w ≡ true) × ((i : ℕ) × (i < f) × Cut pages slot k (frame_at fs i) × ((frame_at fs i).wired ≡ 1)))

-- where none is found, no frame below f has one of the pages
abbrev pub FoundBelow : ℕ → ℕ → ℕ → List Frame → ℕ → Bool → Type 0
FoundBelow pages slot k fs f any = any ≡ false → (i : ℕ) → i < f → ¬ (Cut pages slot k (frame_at fs i))

abbrev pub invariant-loop-f : goal.invariant-loop-f
invariant-loop-f l = record { asked : AskedBelow l.pages l.slot l.k (unpacked l.frames) l.f l.wired; found : FoundBelow l.pages l.slot l.k (unpacked l.frames) l.f l.any }
