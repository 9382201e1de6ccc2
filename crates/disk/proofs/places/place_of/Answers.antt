-- `place_of` meets its contract: by what its callees ensure; every number fits.
use mathlib.Core.Path.{◌∙◌, ap}
use native.Mathlib.Omega.{arith}
use Rattle.layout.specs.Rows.{per_row}
use Rattle.layout.specs.Laid.{table}
use Rattle.tables.specs.Turn.{yes_so}
use Rattle.disk.specs.Header.{disk_fits}
use Rattle.disk.specs.Laws.Header.{limits}
use Rattle.disk.specs.Laws.Places.{width_small, rows_small, per_row_small, before_small, place_there}
use Rattle.disk.proofs.places.place_of.Goals as goal

pub overflow_cast-begins : goal.overflow_cast-begins
overflow_cast-begins c =
    omega (arith, c.before_table-begins.ensures, before_small c.args.sizes (limits c.args.sizes c.requires.0) c.args.t)

pub overflow_cast-rows : goal.overflow_cast-rows
overflow_cast-rows c =
    omega (arith, c.rows_of-rows.ensures, rows_small c.args.sizes (limits c.args.sizes c.requires.0) (table c.args.t))

pub overflow_cast-width : goal.overflow_cast-width
overflow_cast-width c =
    omega (arith, c.width_of-entries.ensures, width_small c.args.sizes (limits c.args.sizes c.requires.0) (table c.args.t))

pub per_row-sectors-requires : goal.per_row-sectors-requires
per_row-sectors-requires c =
    omega (arith, c.width_of-entries.ensures, width_small c.args.sizes (limits c.args.sizes c.requires.0) (table c.args.t))

pub overflow_cast-sectors : goal.overflow_cast-sectors
overflow_cast-sectors c =
    omega (arith, c.per_row-sectors.ensures ∙ ap per_row c.width_of-entries.ensures, per_row_small c.args.sizes (limits c.args.sizes c.requires.0) (table c.args.t))

pub returns : goal.returns
returns c =
    place_there c.args.sizes c.args.t c.requires.1 (yes_so (disk_fits c.args.sizes) c.requires.0) _ _ _ _ c.before_table-begins.ensures c.rows_of-rows.ensures c.width_of-entries.ensures (c.per_row-sectors.ensures ∙ ap per_row c.width_of-entries.ensures)
