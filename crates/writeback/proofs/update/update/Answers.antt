-- `update` meets its contract: each way out by its law.
use native.Mathlib.Omega.{arith}
use Rattle.std.proofs.lemmas.Result.{err_from_is_err_and}
use Rattle.leaves.specs.Packed.{unpacked}
use Rattle.writeback.proofs.UpdateWork.{refused, images_fit, pages_ready, updated}
use Rattle.writeback.proofs.Moves.{released_leaving}
use Rattle.writeback.proofs.update.update.Goals as goal

pub returns-in_err-ask_update : goal.returns-in_err-ask_update
returns-in_err-ask_update c =
    let p = err_from_is_err_and c.from_residual.result c.from_residual.ensures.1 in
    rw (p.1, p.2) (refused _ _ _ _ _ _ _ _ _ _ _ c.in_err-ask_update.ensures)

pub fill_image-requires : goal.fill_image-requires
fill_image-requires c =
    let a = c.args in
    (c.requires.0.pages_some, images_fit a.sizes (unpacked a.frames.now) a.numbers.now a.addresses.now a.states.now a.owners.now a.active.now a.updating.now a.images.now a.slot c.in_ok-ask_update.ensures c.requires)

pub leave_pages-requires : goal.leave_pages-requires
leave_pages-requires c =
    let a = c.args in
    pages_ready a.sizes (unpacked a.frames.now) a.numbers.now a.addresses.now a.states.now a.owners.now a.active.now a.updating.now a.images.now a.slot c.in_ok-ask_update.ensures c.requires

pub move_all-requires : goal.move_all-requires
move_all-requires c =
    (omega (arith, c.leave_pages.auto.states, c.requires.2), released_leaving)

pub returns : goal.returns
returns c =
    updated _ _ _ _ _ _ _ _ _ _ c.in_ok-ask_update.ensures c.requires c.put.ensures c.fill_image.ensures c.leave_pages.ensures.0 c.leave_pages.ensures.1
    c.move_all.ensures
