-- `empty_doubled` meets its contract: the invariant is `PackRun`, the pass before slot s.
use mathlib.Core.Path.{◌≡◌}
use Prim.Native.Nat.{ℕ, ◌+◌, ◌<◌}
use native.Mathlib.Omega.{arith}
use lib.ListN.{length}
use Rattle.tables.specs.Turn.{said_yes, said_no}
use Rattle.mending.specs.Passes.{packed, filled, lost_kept, lost_long, lost_list_long, lost_room}
use Rattle.mending.specs.Names.{doubled_in}
use Rattle.mending.specs.SlotSteps.{pack_begun, pack_passes, pack_ended, pack_rest, pack_by, pack_room, row_given_pack, whole_1, none_1, number_1, doubled_now}
use Rattle.mending.proofs.steps.empty_doubled.Goals as goal
use Rattle.mending.proofs.steps.empty_doubled.Goals.{then-is_doubled, else-is_doubled}

above_zero : (a : ℕ) → ¬ (a ≡ 0) → 0 < a
above_zero a e = omega arith

pub loop-s-init : goal.loop-s-init
loop-s-init c =
    pack_begun c.args.sizes 0 (packed c.args.numbers.now c.args.accounts.now c.args.maps.now) c.args.changes.now c.args.n

pub lose_number-count-requires : goal.lose_number-count-requires
lose_number-count-requires c =
    let h = said_yes (doubled_in c.loop-s.numbers c.loop-s.s) c.is_doubled.ensures c.if-is_doubled.true in
    (omega (arith, c.loop-s.invariant.numbers_long, c.requires.long.numbers, c.loop-s-test.true), omega (arith, c.requires.within.slots_most, c.loop-s-test.true), omega (arith, c.requires.within.pages_most), above_zero _ h.0, omega (arith, pack_room c.requires c.loop-s.invariant))

pub account_above-count-requires : goal.account_above-count-requires
account_above-count-requires c =
    let h = said_yes (doubled_in c.loop-s.numbers c.loop-s.s) c.is_doubled.ensures c.if-is_doubled.true in (
      omega (arith, c.loop-s.invariant.accounts_long, c.requires.long.accounts, c.loop-s-test.true),
      omega (arith, c.requires.within.slots_most, c.loop-s-test.true),
      omega (arith, c.requires.within.pages_most),
      omega (arith, lost_room c.lose_number-count.ensures (omega (arith, c.loop-s.invariant.numbers_long, c.requires.long.numbers, c.loop-s-test.true)) (λ _. h.0) (filled c.loop-s.accounts + filled c.loop-s.maps) (pack_room c.requires c.loop-s.invariant)),
    )

pub row_above-count-requires : goal.row_above-count-requires
row_above-count-requires c =
    let h = said_yes (doubled_in c.loop-s.numbers c.loop-s.s) c.is_doubled.ensures c.if-is_doubled.true in
    let room = lost_room c.lose_number-count.ensures (omega (arith, c.loop-s.invariant.numbers_long, c.requires.long.numbers, c.loop-s-test.true)) (λ _. h.0) (filled c.loop-s.accounts + filled c.loop-s.maps) (pack_room c.requires c.loop-s.invariant) in
    let after = lost_room c.account_above-count.ensures (omega (arith, c.loop-s.invariant.accounts_long, c.requires.long.accounts, c.loop-s-test.true)) (λ g o. omega (arith, g, o)) (filled c.loop-s.maps) (omega (arith, room)) in
    row_given_pack c.requires c.loop-s.s _ _ _ c.loop-s-test.true c.loop-s.invariant.maps_long (omega (arith, after))

pub loop-s-preserved : goal.loop-s-preserved
loop-s-preserved c =
    let d = packed c.args.numbers.now c.args.accounts.now c.args.maps.now in
    let z = c.args.sizes in
    let i = c.loop-s.s in
    let inside : i < length c.args.numbers.now = omega (arith, c.requires.long.numbers, c.loop-s-test.true) in
    let now = doubled_now z d c.args.changes.now c.args.n i inside c.loop-s.invariant.run in
    elim c.if-is_doubled.branch [
      | then-is_doubled w ↦
          let h = said_yes (doubled_in c.loop-s.numbers c.loop-s.s) c.is_doubled.ensures w.if-is_doubled.true in
          let g = w.lose_number-count.ensures in
          let nu = number_1 z d c.args.changes.now c.args.n i inside (now.0 h) c.loop-s.invariant.run g in
          let kept = lost_kept g (omega (arith, c.loop-s.invariant.numbers_long, inside)) (λ _. h.0) in
          pack_by (pack_rest z 0 d c.args.changes.now c.args.n i c.requires.long c.loop-s-test.true (whole_1 z d i (now.0 h)) c.loop-s.invariant (lost_long g) (lost_list_long g) nu.0 nu.1 kept w.account_above-count.ensures w.row_above-count.ensures)
          w.numbers-is w.accounts-is w.maps-is w.changes-is w.count-is
      | else-is_doubled w ↦
          let stays = none_1 z d i (λ x. said_no (doubled_in c.loop-s.numbers c.loop-s.s) c.is_doubled.ensures w.if-is_doubled.false (now.1 x)) in
          pack_by (pack_passes z 0 d c.args.changes.now c.args.n i c.loop-s-test.true stays c.loop-s.invariant) w.numbers-is w.accounts-is w.maps-is w.changes-is w.count-is
    ]

pub returns : goal.returns
returns c =
    pack_ended c.args.sizes 0 (packed c.args.numbers.now c.args.accounts.now c.args.maps.now) c.args.changes.now c.args.n _ c.requires.long c.loop-s-test.false c.loop-s.invariant
