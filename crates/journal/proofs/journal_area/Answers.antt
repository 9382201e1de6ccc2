-- `journal_area` meets its contract.
use Rattle.std.proofs.Common.{arith}
use Rattle.journal.specs.Laws.Sequence.{area_odd, area_even}
use Rattle.journal.proofs.journal_area.Goals as goal

pub returns-then-sequence-eq1 : goal.returns-then-sequence-eq1
returns-then-sequence-eq1 c =
    area_odd c.args.most c.args.sequence c.args.i (omega arith)

pub returns : goal.returns
returns c =
    area_even c.args.most c.args.sequence c.args.i (omega arith)
