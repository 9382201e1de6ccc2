-- `shown_bytes` meets its contract.
use Rattle.std.proofs.Common.{sym, ◌∙◌, arith}
use Rattle.carrying.proofs.Shown.{shown_long, hidden_long}
use Rattle.carrying.proofs.export.shown_bytes.Goals as goal

pub returns-then-is_shown-clause-bytes : goal.returns-then-is_shown-clause-bytes
returns-then-is_shown-clause-bytes c p = sym (shown_long c.args.w c.args.records.now c.args.entry p (sym c.is_shown.ensures ∙ c.if-is_shown.true))

pub returns-else-is_shown-clause-bytes : goal.returns-else-is_shown-clause-bytes
returns-else-is_shown-clause-bytes c p = omega (arith, hidden_long c.args.w c.args.records.now c.args.entry p 0 (sym c.is_shown.ensures ∙ c.if-is_shown.false))
