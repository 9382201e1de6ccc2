-- `put_four` meets its contract.
use Rattle.sheets.specs.Sheet.{bytes}
use Rattle.sheets.specs.Laws.Laying.{laid_4_by, high_first_4}
use Rattle.sheets.proofs.print.put_four.Goals as goal

pub returns : goal.returns
unfolding bytes
returns c = rw (high_first_4 _ _ c.to_be_bytes-bytes.ensures) (laid_4_by _ _ c.args.v c.requires)
