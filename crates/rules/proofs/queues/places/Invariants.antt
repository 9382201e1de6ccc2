use Rattle.rules.proofs.Places.{Counting}
use Rattle.rules.proofs.queues.places.Given as goal

abbrev pub invariant-loop-entry : goal.invariant-loop-entry
invariant-loop-entry l = Counting l.entries l.t l.entry-index
