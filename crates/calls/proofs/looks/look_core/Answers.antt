-- `look_core` meets its contract: the part that the numbers tell.
use native.Mathlib.Omega.{arith}
use Rattle.model.specs.Lent.{all_of}
use Rattle.model.specs.Calls.{frames_of}
use Rattle.calls.specs.Looking.{part_looked}
use Rattle.calls.proofs.looks.look_core.Goals as goal

pub overflow_add-end : goal.overflow_add-end
overflow_add-end c = omega (arith, c.place_core-part.ensures.1)

pub offset_bounds-frame_words-start : goal.offset_bounds-frame_words-start
offset_bounds-frame_words-start c = omega (arith, c.place_core-part.ensures.1)

pub returns : goal.returns
returns c =
    let a = c.args in
    part_looked a.sizes
    (all_of (frames_of a.frames a.lent) a.pool a.records.now a.numbers.now a.accounts.now a.maps.now a.limits.now a.parents.now a.highest.now a.frame_words.now a.free_queue.now a.removal_list.now
    a.addresses.now a.states.now a.owners.now a.free_map.now a.active.now a.updating.now a.images.now a.chip_words.now a.chip_records.now a.chip_next.now a.line.now a.used.now)
    a.slot a.page c.place_core-part.result a.frame_words.ref_ptr c.place_core-part.ensures.0
