use mathlib.Core.Path.{◌≡◌}
use mathlib.Core.List.{List}
use Prim.Native.Nat.{ℕ, ◌<◌, ◌≤◌}
use lib.ListN.{length}
use Rattle.tables.specs.Rule.{Holds}
use Rattle.tables.specs.Store.{Split}
use Rattle.model.specs.declared.frame.Frame.{Frame}
use Rattle.model.specs.State.{frame_at, no_frame}
use Rattle.leaves.specs.Packed.{unpacked}
use Rattle.writeback.specs.Truncate.{cut_frame}
use Rattle.writeback.proofs.truncate.clear_frames.Given as goal

-- the frames below f are done, the others are as they were
pub record Cleared (pages slot k : ℕ) (fs : List Frame) (f : ℕ) (kept : List Frame) : Type 0 where
  pub so_far : (i : ℕ) → i < f → Split (Holds (cut_frame pages slot k pages (frame_at fs i))) (frame_at kept i) no_frame (frame_at fs i)
  pub ahead : (i : ℕ) → f ≤ i → frame_at kept i ≡ frame_at fs i
  pub long : length kept ≡ length fs

abbrev pub invariant-loop-f : goal.invariant-loop-f
invariant-loop-f l = Cleared l.pages l.slot l.k (unpacked l.initial.frames) l.f (unpacked l.frames)
