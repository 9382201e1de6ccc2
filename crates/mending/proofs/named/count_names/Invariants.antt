use lib.ListN.{length}
use Rattle.tables.specs.Base.{at}
use Rattle.mending.specs.Names.{Tally}
use Rattle.mending.proofs.named.count_names.Given as goal

abbrev pub invariant-loop-entry : goal.invariant-loop-entry
invariant-loop-entry l = Tally (at l.maps) l.entry-index (length l.initial.named) l.named
