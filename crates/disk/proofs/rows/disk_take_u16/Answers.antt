-- `disk_take_u16` meets its contract: where every word fits, the entries that were cut out are the sector's.
use mathlib.Core.Path.{◌≡◌, sym, ◌∙◌}
use mathlib.Core.Bool.{true, false}
use native.Mathlib.Omega.{arith}
use Rattle.tables.specs.Rule.{test}
use Rattle.tables.specs.Turn.{said_yes}
use Rattle.disk.specs.Taken.{halves, taken_halves}
use Rattle.disk.specs.Laws.Rows.{cut_count, taken_piece}
use Rattle.disk.proofs.rows.disk_take_u16.Goals as goal

pub end_of-end-requires : goal.end_of-end-requires
end_of-end-requires c =
    omega (arith, c.cut_out-at.ensures.small, cut_count c.cut_out-at.ensures)

pub take_u16-requires : goal.take_u16-requires
take_u16-requires c =
    let all = said_yes (halves c.args.words.now) c.all_halves.ensures c.if-all_halves.true in
    (c.end_of-end.ensures.in_table, omega (arith, c.end_of-end.ensures.in_piece, cut_count c.cut_out-at.ensures), λ j l. all j (omega arith))

pub returns-then-all_halves : goal.returns-then-all_halves
unfolding taken_halves
returns-then-all_halves c =
    let yes : true ≡ test (halves c.args.words.now) = sym c.if-all_halves.true ∙ c.all_halves.ensures in
    (rw (← yes), rw (← yes) (c.take_u16.ensures ∙ taken_piece c.args.width c.args.sector c.cut_out-at.result.start c.cut_out-at.result.count c.end_of-end.result c.args.words.now c.args.table.now c.cut_out-at.ensures c.end_of-end.ensures))

pub returns : goal.returns
unfolding taken_halves
returns c =
    let no : false ≡ test (halves c.args.words.now) = sym c.if-all_halves.false ∙ c.all_halves.ensures in
    (rw (← no), rw (← no))
