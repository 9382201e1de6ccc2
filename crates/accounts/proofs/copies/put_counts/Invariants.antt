use lib.ListN.{length}
use Rattle.tables.specs.Base.{at}
use Rattle.leaves.specs.ByEntry.{Begun}
use Rattle.accounts.proofs.copies.put_counts.Given as goal

abbrev pub invariant-loop-q : goal.invariant-loop-q
invariant-loop-q l = Begun (length l.initial.used) (at l.totals) l.q l.used
