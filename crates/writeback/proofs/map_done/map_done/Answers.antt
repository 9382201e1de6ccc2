-- `map_done` meets its contract: each way out by its law.
use native.Mathlib.Omega.{arith}
use Rattle.writeback.proofs.MapWork.{refused, maps_fit, images_fit, good_left, failed_left}
use Rattle.writeback.proofs.Moves.{leaving_released}
use Rattle.writeback.proofs.map_done.map_done.Goals as goal

pub returns-in-Err : goal.returns-in-Err
returns-in-Err c = refused _ _ _ _ _ _ _ _ _ _ _ c.in-Err.no c.in-Err.ensures c.from.ensures

pub copy_slot-requires : goal.copy_slot-requires
copy_slot-requires c =
    (c.requires.pages_some, images_fit _ c.args.numbers.now _ _ _ _ c.args.active.now c.args.updating.now _ _ _ c.in_default.ensures c.requires, maps_fit _ c.args.numbers.now _ _ _ _ c.args.active.now c.args.updating.now _ _ _ c.in_default.ensures c.requires)

pub clear_slot-requires : goal.clear_slot-requires
clear_slot-requires c =
    (c.requires.pages_some, images_fit _ c.args.numbers.now _ _ _ _ c.args.active.now c.args.updating.now _ _ _ c.in_default.ensures c.requires)

pub returns-then-good-eq1 : goal.returns-then-good-eq1
returns-then-good-eq1 c =
    good_left _ _ _ _ _ _ _ _ _ _ _ c.in_default.ensures c.requires c.if-good-eq1.true c.put.ensures c.copy_slot.ensures c.clear_slot.ensures c.free_leaving-count.ensures c.done.ensures

pub clear_slot-requires-2 : goal.clear_slot-requires-2
clear_slot-requires-2 c =
    (c.requires.pages_some, images_fit _ c.args.numbers.now _ _ _ _ c.args.active.now c.args.updating.now _ _ _ c.in_default.ensures c.requires)

pub move_all-requires : goal.move_all-requires
move_all-requires c =
    (omega (arith, c.requires.states_long, c.requires.owners_long), leaving_released)

pub returns : goal.returns
returns c =
    failed_left _ _ _ _ _ _ _ _ _ _ _ c.in_default.ensures c.requires c.if-good-eq1.false c.put.ensures c.clear_slot-2.ensures c.move_all.ensures c.done-2.ensures
