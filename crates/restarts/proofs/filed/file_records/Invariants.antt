use lib.ListN.{length}
use Rattle.tables.specs.Base.{at}
use Rattle.leaves.specs.ByEntry.{Filled}
use Rattle.restarts.specs.Filed.{state_by, owner_by}
use Rattle.restarts.proofs.filed.file_records.Given as goal

abbrev pub invariant-loop-i : goal.invariant-loop-i
invariant-loop-i l = Filled (length l.initial.states) (state_by l.i (at l.maps)) l.states × Filled (length l.initial.states) (owner_by l.i l.pages (at l.maps)) l.owners
