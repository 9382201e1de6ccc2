use mathlib.Core.Path.{◌≡◌}
use Prim.Native.Nat.{ℕ, ◌<◌}
use lib.ListN.{length}
use Rattle.model.specs.State.{frame_at}
use Rattle.leaves.specs.Packed.{unpacked}
use Rattle.calls.proofs.packing.pack_all.Given as goal

abbrev pub invariant-loop-f : goal.invariant-loop-f
invariant-loop-f l = (length l.packed ≡ 64) × ((k : ℕ) → k < l.f → frame_at (unpacked l.packed) k ≡ frame_at l.frames k)
