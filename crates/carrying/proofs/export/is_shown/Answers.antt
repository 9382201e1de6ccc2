-- `is_shown` meets its contract.
use Rattle.std.proofs.Common.{not, ap, ◌∙◌}
use borrow.Author.Tests.{eq-eqb}
use Rattle.carrying.proofs.Shown.{nothing_shown}
use Rattle.carrying.proofs.export.is_shown.Goals as goal

pub returns-else-entry-ne0 : goal.returns-else-entry-ne0
returns-else-entry-ne0 c = ap not (eq-eqb c.args.entry 0 c.if-entry-ne0.false) ∙ nothing_shown c.args.w c.args.records.now c.args.entry c.if-entry-ne0.false
