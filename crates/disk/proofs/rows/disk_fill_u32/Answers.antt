-- `disk_fill_u32` meets its contract: the piece that was cut out is the sector's.
use mathlib.Core.Path.{◌∙◌}
use Rattle.disk.specs.Laws.Rows.{filled_row}
use Rattle.disk.proofs.rows.disk_fill_u32.Goals as goal

pub returns : goal.returns
returns c =
    c.fill_u32.ensures ∙ filled_row c.args.width c.args.sector c.cut_out-at.result.start c.cut_out-at.result.count c.cut_out-at.ensures c.args.table.now
