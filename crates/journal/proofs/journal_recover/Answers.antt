-- `journal_recover` meets its contract.
use Rattle.std.proofs.Common.{arith, le-ltb, lt-ltb}
use Rattle.journal.specs.Steps.{recovers}
use Rattle.journal.proofs.journal_recover.Goals as goal

pub returns-then-at-count : goal.returns-then-at-count
unfolding recovers
returns-then-at-count c =
    rw (lt-ltb c.args.at c.args.count (omega arith))

pub returns : goal.returns
unfolding recovers
returns c =
    rw (le-ltb c.args.at c.args.count (omega arith))
