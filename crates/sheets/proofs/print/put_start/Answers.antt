-- `put_start` meets its contract.
use Rattle.sheets.specs.Laws.Laying.{laid_start}
use Rattle.sheets.proofs.print.put_start.Goals as goal

pub returns : goal.returns
returns c =
    laid_start c.args.b.now c.args.w c.args.n c.args.number c.put_head.ensures c.put_two.ensures c.put_two-2.ensures c.put_head-2.ensures c.put_four.ensures
