use Prim.Native.Nat.{◌+◌, ◌*◌, ◌/◌, ◌%◌}
use Rattle.tables.specs.Base.{at}
use Rattle.tables.specs.Rule.{same}
use Rattle.tables.specs.StoreLoops.{Turned}
use Rattle.carrying.proofs.steps.store_map.Given as goal

abbrev pub invariant-loop-p : goal.invariant-loop-p
invariant-loop-p l = Turned l.initial.maps (λ i. same (i / l.pages) l.slot) (λ i. at l.entries (i % l.pages)) (l.slot * l.pages + l.p) l.maps
