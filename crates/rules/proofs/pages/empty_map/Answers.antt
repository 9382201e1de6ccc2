-- A filled slot is passed over.
use Rattle.tables.specs.Rule.{same}
use Rattle.tables.specs.Turn.{unless, when}
use Rattle.leaves.proofs.Runs.{zeros_said}
use Rattle.rules.proofs.pages.empty_map.Goals as goal

pub returns-then-number-ne0 : goal.returns-then-number-ne0
returns-then-number-ne0 c = unless (same _ 0) _ c.if-number-ne0.true

pub returns : goal.returns
returns c = when (same _ 0) _ _ c.if-number-ne0.false (zeros_said _ _ c.args.maps.now c.all_zeros.ensures)
