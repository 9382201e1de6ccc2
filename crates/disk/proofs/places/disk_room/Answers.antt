-- `disk_room` meets its contract: by the test of the sizes.
use mathlib.Core.Path.{sym, ◌∙◌}
use native.Mathlib.Omega.{arith}
use Rattle.tables.specs.Turn.{said_yes}
use Rattle.disk.specs.Header.{disk_fits}
use Rattle.disk.specs.Laws.Header.{limits}
use Rattle.disk.specs.Laws.Places.{before_small, room_yes, room_no}
use Rattle.disk.proofs.places.disk_room.Goals as goal

pub before_table-all-requires : goal.before_table-all-requires
before_table-all-requires c =
    (said_yes (disk_fits c.args.sizes) c.sizes_fit.ensures c.if-sizes_fit.true, omega arith)

pub overflow_cast-result : goal.overflow_cast-result
overflow_cast-result c =
    omega (arith, c.before_table-all.ensures, before_small c.args.sizes (limits c.args.sizes (said_yes (disk_fits c.args.sizes) c.sizes_fit.ensures c.if-sizes_fit.true)) 7)

pub returns-then-sizes_fit : goal.returns-then-sizes_fit
returns-then-sizes_fit c =
    c.before_table-all.ensures ∙ room_yes c.args.sizes (sym c.if-sizes_fit.true ∙ c.sizes_fit.ensures)

pub returns : goal.returns
returns c =
    room_no c.args.sizes (sym c.if-sizes_fit.false ∙ c.sizes_fit.ensures)
