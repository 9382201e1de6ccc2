-- `fill` meets its contract: the part and the entry are inside their tables.
use mathlib.Core.Path.{ap}
use native.Mathlib.Numerals.{add-one}
use lib.ListN.{set}
use Rattle.tables.specs.StoreLoops.{part_fits}
use Rattle.chips.proofs.put.fill.Goals as goal

pub copy_part-requires : goal.copy_part-requires
copy_part-requires c =
    let a = c.args in let p = c.requires in
    (p.0.words, rw p.3 (part_fits a.sizes.records a.sizes.words a.r p.1), rw p.4.words (part_fits a.sizes.chip a.sizes.words a.place p.2))

pub returns : goal.returns
returns c =
    let a = c.args in
    record {
      words = c.copy_part.ensures;
      copies = ap (set a.chip_records.now a.place) (add-one a.r);
    }
