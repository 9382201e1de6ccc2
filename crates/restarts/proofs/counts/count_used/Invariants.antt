use lib.ListN.{length}
use Rattle.tables.specs.Base.{at}
use Rattle.leaves.specs.ByEntry.{Filled}
use Rattle.restarts.specs.Counts.{used_by}
use Rattle.restarts.proofs.counts.count_used.Given as goal

abbrev pub invariant-loop-i : goal.invariant-loop-i
invariant-loop-i l = Filled (length l.initial.used) (used_by l.i l.pages (at l.payers) (at l.maps)) l.used
