-- `drop_one` meets its contract: the place that is found, or none.
use mathlib.Core.Path.{ap, ◌∙◌}
use Prim.Native.Nat.{ℕ}
use lib.ListN.{set}
use Rattle.tables.specs.Rule.{told, untold}
use Rattle.model.specs.Lent.{chip_of}
use Rattle.model.specs.Parts.{set_part}
use Rattle.model.specs.Chip.{has_copy}
use Rattle.chips.proofs.Copies.{place_is, has_copy_holds, no_copy}
use Rattle.chips.proofs.drop.drop_one.Goals as goal

pub returns-then-place-sizes : goal.returns-then-place-sizes
returns-then-place-sizes c next =
    let a = c.args in
    let k = chip_of a.chip_words.now a.chip_records.now next in
    let e = place_is a.sizes k a.r c.place_of-place.result c.requires.2.copies c.place_of-place.ensures in
    rw (told (has_copy a.sizes k a.r) (has_copy_holds a.sizes k a.r c.place_of-place.result c.requires.2.copies c.place_of-place.ensures c.if-place-sizes.true))
    (λ x. chip_of ((c.empty_place.ensures.words ∙ ap (λ (b : ℕ). set_part a.sizes b (λ w. 0) a.chip_words.now) e) x) ((c.empty_place.ensures.copies ∙ ap (λ (b : ℕ). set a.chip_records.now b 0) e) x) next)

pub returns-else-place-sizes : goal.returns-else-place-sizes
returns-else-place-sizes c next =
    let a = c.args in
    let k = chip_of a.chip_words.now a.chip_records.now next in
    rw (untold (has_copy a.sizes k a.r) (no_copy a.sizes k a.r c.place_of-place.result c.requires.2.copies c.place_of-place.ensures c.if-place-sizes.false))
