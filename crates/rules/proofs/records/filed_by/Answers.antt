-- By the mark, where the state asks for it.
use mathlib.Core.Path.{◌∙◌}
use Rattle.tables.specs.Turn.{when, unless, test_same}
use Rattle.tables.specs.Rule.{same}
use Rattle.rules.proofs.records.filed_by.Goals as goal

pub returns-then-state-eq-FILED : goal.returns-then-state-eq-FILED
returns-then-state-eq-FILED c =
    let args = c.args in
    when (same args.state 1) _ _ c.if-state-eq-FILED.true (c.is_marked.ensures ∙ test_same _ 1)

pub returns : goal.returns
returns c =
    unless (same c.args.state 1) _ c.if-state-eq-FILED.false
