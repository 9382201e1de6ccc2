-- `carry_page` meets its contract: a record is taken, listed and stored.
use Prim.Native.Nat.{◌-◌}
use native.Mathlib.Omega.{arith}
use Rattle.tables.specs.StoreLoops.{part_fits}
use Rattle.carrying.proofs.Going.{page_below}
use Rattle.carrying.proofs.pages.carry_page.Goals as goal

pub overflow_cast-taken : goal.overflow_cast-taken
overflow_cast-taken c =
    let a = c.args in
    let within = page_below a.sizes a.hand a.last a.states.now a.map.now c.requires.1.choice c.take_record-taken.result c.take_record-taken.ensures.taken in
    omega (arith, within.1)

pub store_record-requires : goal.store_record-requires
store_record-requires c =
    let a = c.args in
    let k = c.requires.1 in
    let z = k.choice.sizes in
    let within = page_below a.sizes a.hand a.last a.states.now a.map.now k.choice c.take_record-taken.result c.take_record-taken.ensures.taken in
    (z.words, omega (arith, z.words_most), k.few, k.words, k.room, omega (arith, part_fits a.sizes.records a.sizes.words (c.take_record-taken.result - 1) within.2, k.records_long))
