-- `journal_home` meets its contract.
use Rattle.std.proofs.Common.{rules}
use Rattle.journal.specs.Layout.{home_at}
use Rattle.journal.proofs.journal_home.Goals as goal

pub returns : goal.returns
unfolding home_at
returns c = search rules
