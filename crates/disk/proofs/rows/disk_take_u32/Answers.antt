-- `disk_take_u32` meets its contract: the entries that were cut out are the sector's.
use mathlib.Core.Path.{◌∙◌}
use native.Mathlib.Omega.{arith}
use Rattle.disk.specs.Laws.Rows.{cut_count, taken_piece}
use Rattle.disk.proofs.rows.disk_take_u32.Goals as goal

pub end_of-end-requires : goal.end_of-end-requires
end_of-end-requires c =
    omega (arith, c.cut_out-at.ensures.small, cut_count c.cut_out-at.ensures)

pub take_u32-requires : goal.take_u32-requires
take_u32-requires c =
    (c.end_of-end.ensures.in_table, omega (arith, c.end_of-end.ensures.in_piece, cut_count c.cut_out-at.ensures))

pub returns : goal.returns
returns c =
    c.take_u32.ensures ∙ taken_piece c.args.width c.args.sector c.cut_out-at.result.start c.cut_out-at.result.count c.end_of-end.result c.args.words.now c.args.table.now c.cut_out-at.ensures c.end_of-end.ensures
