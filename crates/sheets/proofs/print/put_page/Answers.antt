-- `put_page` meets its contract.
use Prim.Native.Nat.{◌+◌}
use Rattle.tables.specs.Base.{at}
use Rattle.sheets.specs.Laws.Laying.{laid_page}
use Rattle.sheets.proofs.print.put_page.Goals as goal

pub returns : goal.returns
returns c =
    laid_page c.args.b.now c.args.from c.args.w c.args.page (λ j. at c.args.words.now (c.args.base + j)) c.put_head.ensures c.put_two.ensures c.put_words.ensures
