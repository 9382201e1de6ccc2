-- `entry_or_zero` meets its contract.
use Rattle.std.proofs.Common.{sym, arith}
use Rattle.journal.specs.Laws.Commits.{past_end}
use Rattle.journal.proofs.entry_or_zero.Goals as goal

pub returns-else-i-entries : goal.returns-else-i-entries
returns-else-i-entries c =
    sym (past_end c.args.entries.now c.args.i (omega arith))
