-- `put_two` meets its contract.
use Rattle.sheets.specs.Sheet.{bytes}
use Rattle.sheets.specs.Laws.Laying.{laid_2_by}
use Rattle.sheets.proofs.print.put_two.Goals as goal

pub returns : goal.returns
unfolding bytes
returns c = rw c.to_be_bytes-bytes.ensures (laid_2_by _ _ c.args.v c.requires)
