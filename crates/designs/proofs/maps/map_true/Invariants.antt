use mathlib.Core.Path.{◌≡◌}
use Prim.Native.Nat.{ℕ, ◌+◌, ◌*◌, ◌<◌}
use Rattle.tables.specs.Base.{at}
use Rattle.leaves.specs.Addresses.{live_address}
use Rattle.designs.proofs.maps.map_true.Given as goal

abbrev pub invariant-loop-p : goal.invariant-loop-p
invariant-loop-p l = (i : ℕ) → i < l.p → at l.maps (l.slot * l.pages + i) ≡ live_address l.addresses l.states (l.slot * l.pages + i)
