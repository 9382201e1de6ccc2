-- `drop_shared` meets its contract: the names are counted, then the invariant is `MapsRun`, the pass before slot s.
use Prim.Native.Nat.{ℕ}
use native.Mathlib.Omega.{arith}
use lib.ListN.{length-replicate}
use Rattle.mending.specs.Passes.{of_shared}
use Rattle.mending.specs.Names.{zeros}
use Rattle.mending.specs.EntrySteps.{maps_none, maps_next, maps_all, still_5, agrees_5}
use Rattle.mending.proofs.steps.drop_shared.Goals as goal

pub count_names-requires : goal.count_names-requires
count_names-requires c =
    (λ i h r e. omega (arith, length-replicate {A = ℕ} 4096 0, c.requires.0.within.records_most, c.requires.1 i h r e), λ r h. zeros 4096 r)

pub loop-s-init : goal.loop-s-init
loop-s-init c = maps_none _ _ _ _ _

pub loop-s-preserved : goal.loop-s-preserved
loop-s-preserved c =
    let z = c.args.sizes in
    let ms = c.args.maps.now in
    let named = c.count_names.new.named in
    maps_next z 4 ms c.args.changes.now c.args.n (still_5 z ms) c.loop-s.s (of_shared named) c.loop-s-test.true
    (agrees_5 z ms named _ c.loop-s.s c.loop-s-test.true c.requires.0.long (omega (arith, length-replicate {A = ℕ} 4096 0, c.requires.0.within.records_most)) c.requires.1 c.count_names.ensures)
    c.row_shared-count.ensures c.loop-s.invariant

pub returns : goal.returns
returns c =
    maps_all c.args.sizes 4 c.args.maps.now c.args.changes.now c.args.n (still_5 c.args.sizes c.args.maps.now) _ c.requires.0.long c.loop-s-test.false c.loop-s.invariant
