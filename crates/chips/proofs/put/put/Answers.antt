-- `put` meets its contract: at the place of the record's own copy, or at the next one.
use mathlib.Core.Path.{ap}
use Prim.Native.Nat.{suc, ◌%◌, ◌<◌}
use native.Mathlib.Nat.{mod-lt}
use native.Mathlib.Omega.{arith}
use lib.ListN.{set}
use Rattle.tables.specs.Base.{at}
use Rattle.model.specs.Lent.{chip_of}
use Rattle.model.specs.Parts.{word_at}
use Rattle.chips.proofs.Copies.{own_place, next_place}
use Rattle.chips.proofs.put.put.Goals as goal

pub returns-then-own-sizes : goal.returns-then-own-sizes
returns-then-own-sizes c =
    let a = c.args in
    own_place a.sizes (chip_of a.chip_words.now a.chip_records.now a.chip_next.now) a.r c.place_of-own.result c.requires.3.copies c.place_of-own.ensures c.if-own-sizes.true
    (word_at a.sizes a.records.now a.r) c.fill.ensures.words c.fill.ensures.copies

pub overflow_cast-chip_next : goal.overflow_cast-chip_next
overflow_cast-chip_next c =
    let m : suc (at c.args.chip_next.now 0) % c.args.sizes.chip < c.args.sizes.chip = mod-lt _ c.requires.0.chip in
    record { fits = omega (arith, c.after.ensures, m, c.requires.0.chip_most) }

pub returns : goal.returns
returns c =
    let a = c.args in
    next_place a.sizes (chip_of a.chip_words.now a.chip_records.now a.chip_next.now) a.r c.place_of-own.result c.requires.3.copies c.place_of-own.ensures c.if-own-sizes.false
    (word_at a.sizes a.records.now a.r) c.fill-2.ensures.words c.fill-2.ensures.copies (ap (set a.chip_next.now 0) c.after.ensures)
