-- `empty_place` meets its contract: the part is inside its table.
use Rattle.tables.specs.StoreLoops.{part_fits}
use Rattle.chips.proofs.drop.empty_place.Goals as goal

pub clear_part-requires : goal.clear_part-requires
clear_part-requires c =
    let a = c.args in let p = c.requires in
    (p.0.words, rw p.2.words (part_fits a.sizes.chip a.sizes.words a.place p.1))
