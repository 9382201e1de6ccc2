-- By its slot's switch, where the record is leaving.
use Rattle.tables.specs.Turn.{when, unless, test_same}
use Rattle.tables.specs.Rule.{same}
use Rattle.rules.proofs.records.leaving_begun.Goals as goal

pub returns-then-state-eq-LEAVING : goal.returns-then-state-eq-LEAVING
returns-then-state-eq-LEAVING c =
    when (same c.args.state 5) _ _ c.if-state-eq-LEAVING.true (test_same _ 1)

pub returns : goal.returns
returns c = unless (same c.args.state 5) _ c.if-state-eq-LEAVING.false
