-- `is_quiet` meets its contract.
use Rattle.tables.specs.Rule.{test}
use Rattle.pages.proofs.asks.is_quiet.Goals as goal

pub returns-then-reads : goal.returns-then-reads
unfolding test
returns-then-reads c = rw c.if-reads.true

pub returns-else-reads : goal.returns-else-reads
unfolding test
returns-else-reads c = rw c.if-reads.false
