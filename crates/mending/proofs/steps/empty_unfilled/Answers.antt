-- `empty_unfilled` meets its contract: the invariant is `PackRun`, the pass before slot s.
use mathlib.Core.Path.{refl}
use native.Mathlib.Omega.{arith}
use Rattle.mending.specs.Passes.{packed, filled, lost_room}
use Rattle.mending.specs.SlotSteps.{pack_begun, pack_passes, pack_ended, pack_rest, pack_by, pack_room, row_given_pack, whole_2, none_2, number_2}
use Rattle.mending.proofs.steps.empty_unfilled.Goals as goal
use Rattle.mending.proofs.steps.empty_unfilled.Goals.{then-numbers-s-eq0, else-numbers-s-eq0}

pub loop-s-init : goal.loop-s-init
loop-s-init c =
    pack_begun c.args.sizes 1 (packed c.args.numbers.now c.args.accounts.now c.args.maps.now) c.args.changes.now c.args.n

pub row_above-count-requires : goal.row_above-count-requires
row_above-count-requires c =
    let after = lost_room c.account_above-count.ensures (omega (arith, c.loop-s.invariant.accounts_long, c.requires.long.accounts, c.loop-s-test.true)) (λ g o. omega (arith, g, o)) (filled c.loop-s.maps) (omega (arith, pack_room c.requires c.loop-s.invariant)) in
    row_given_pack c.requires c.loop-s.s _ _ _ c.loop-s-test.true c.loop-s.invariant.maps_long (omega (arith, after))

pub loop-s-preserved : goal.loop-s-preserved
loop-s-preserved c =
    let d = packed c.args.numbers.now c.args.accounts.now c.args.maps.now in
    let z = c.args.sizes in
    let i = c.loop-s.s in
    let nu = number_2 z d c.args.changes.now c.args.n i c.loop-s.invariant.run in
    elim c.if-numbers-s-eq0.branch [
      | then-numbers-s-eq0 w ↦
          pack_by (pack_rest z 1 d c.args.changes.now c.args.n i c.requires.long c.loop-s-test.true (whole_2 z d i w.if-numbers-s-eq0.true) c.loop-s.invariant refl refl nu.0 nu.1 refl w.account_above-count.ensures w.row_above-count.ensures)
          refl w.accounts-is w.maps-is w.changes-is w.count-is
      | else-numbers-s-eq0 w ↦
          pack_by (pack_passes z 1 d c.args.changes.now c.args.n i c.loop-s-test.true (none_2 z d i w.if-numbers-s-eq0.false) c.loop-s.invariant) refl w.accounts-is w.maps-is w.changes-is w.count-is
    ]

pub returns : goal.returns
returns c =
    pack_ended c.args.sizes 1 (packed c.args.numbers.now c.args.accounts.now c.args.maps.now) c.args.changes.now c.args.n _ c.requires.long c.loop-s-test.false c.loop-s.invariant
