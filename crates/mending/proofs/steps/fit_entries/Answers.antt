-- `fit_entries` meets its contract: the invariant is `MapsRun`, the pass before slot s.
use Rattle.mending.specs.Passes.{above}
use Rattle.mending.specs.EntrySteps.{maps_none, maps_next, maps_all, still_4, agrees_4}
use Rattle.mending.proofs.steps.fit_entries.Goals as goal

pub loop-s-init : goal.loop-s-init
loop-s-init c = maps_none _ _ _ _ _

pub loop-s-preserved : goal.loop-s-preserved
loop-s-preserved c =
    maps_next c.args.sizes 3 c.args.maps.now c.args.changes.now c.args.n (still_4 c.args.sizes c.args.maps.now) c.loop-s.s (above c.args.sizes.records) c.loop-s-test.true (agrees_4 c.args.sizes c.args.maps.now c.loop-s.s) c.row_above-count.ensures c.loop-s.invariant

pub returns : goal.returns
returns c =
    maps_all c.args.sizes 3 c.args.maps.now c.args.changes.now c.args.n (still_4 c.args.sizes c.args.maps.now) _ c.requires.long c.loop-s-test.false c.loop-s.invariant
