use Prim.Native.Nat.{ℕ, ◌+◌, ◌*◌, ◌<◌}
use Rattle.model.specs.State.{frame_at}
use Rattle.leaves.specs.Packed.{unpacked}
use Rattle.designs.proofs.frames.none_framed.Given as goal

abbrev pub invariant-loop-f : goal.invariant-loop-f
invariant-loop-f l = (k : ℕ) → k < l.f → ¬ ((l.slot * l.pages < (frame_at (unpacked l.frames) k).page) × ((frame_at (unpacked l.frames) k).page < l.slot * l.pages + l.pages + 1))
