-- `is_headed` meets its contract.
use Rattle.sheets.proofs.Cases.{other_tag, by_size}
use Rattle.sheets.proofs.read.is_headed.Goals as goal

pub returns-then-s-from : goal.returns-then-s-from
returns-then-s-from c = by_size c.args.s.now c.args.from c.args.tag c.args.size c.if-s-from.true _ c.number_at.ensures

pub returns-else-s-from : goal.returns-else-s-from
returns-else-s-from c = other_tag c.args.s.now c.args.from c.args.tag c.args.size c.if-s-from.false
