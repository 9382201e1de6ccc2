-- `has_page` meets its contract: its test is the rule's.
use Rattle.tables.specs.Turn.{test_same}
use Rattle.leaves.proofs.packed.has_page.Goals as goal

pub returns : goal.returns
returns c = test_same _ _
