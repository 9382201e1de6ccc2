-- `put_head` meets its contract.
use native.Mathlib.Omega.{arith}
use Rattle.sheets.specs.Laws.Laying.{laid_head}
use Rattle.sheets.proofs.print.put_head.Goals as goal

pub returns : goal.returns
returns c = laid_head c.args.b.now c.args.from c.args.tag c.args.size (omega arith) c.put_two.ensures
