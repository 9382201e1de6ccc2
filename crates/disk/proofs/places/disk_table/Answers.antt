-- `disk_table` meets its contract: by the number of the table, then by the sizes.
use mathlib.Core.Path.{sym, ◌∙◌}
use native.Mathlib.Omega.{arith}
use Rattle.tables.specs.Turn.{said_yes}
use Rattle.disk.specs.Header.{disk_fits}
use Rattle.disk.specs.Laws.Places.{place_past, place_out}
use Rattle.disk.proofs.places.disk_table.Goals as goal

pub returns-then-table-ge-TABLES : goal.returns-then-table-ge-TABLES
returns-then-table-ge-TABLES c =
    c.nowhere.ensures ∙ place_past c.args.sizes c.args.table (omega arith)

pub place_of-requires : goal.place_of-requires
place_of-requires c =
    (said_yes (disk_fits c.args.sizes) c.sizes_fit.ensures c.if-sizes_fit.true, omega arith)

pub returns : goal.returns
returns c =
    c.nowhere-2.ensures ∙ place_out c.args.sizes c.args.table (sym c.if-sizes_fit.false ∙ c.sizes_fit.ensures)
