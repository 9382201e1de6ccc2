use Prim.Native.Nat.{◌/◌}
use Rattle.tables.specs.Rule.{same}
use Rattle.tables.specs.StoreLoops.{Turned}
use Rattle.leaves.specs.Addresses.{live_address}
use Rattle.writeback.proofs.update.fill_image.Given as goal

abbrev pub invariant-loop-i : goal.invariant-loop-i
invariant-loop-i l =
    Turned l.initial.images (λ k. same (k / l.pages) l.slot) (live_address l.addresses l.states) l.i l.images
