use lib.ListN.{length}
use Rattle.tables.specs.Base.{at}
use Rattle.leaves.specs.ByEntry.{Begun}
use Rattle.accounts.proofs.copies.copy16.Given as goal

abbrev pub invariant-loop-i : goal.invariant-loop-i
invariant-loop-i l = Begun (length l.initial.table) (at l.source) l.i l.table
