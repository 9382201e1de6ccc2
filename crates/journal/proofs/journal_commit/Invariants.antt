-- `journal_commit`: the words of the first i home sectors stand.
use Rattle.journal.specs.Laws.Commits.{Filled}
use Rattle.journal.proofs.journal_commit.Given as goal

abbrev pub invariant-loop-i : goal.invariant-loop-i
invariant-loop-i l = Filled l.homes l.i l.words
