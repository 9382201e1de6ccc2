use Rattle.mending.specs.EntrySteps.{MapsRun}
use Rattle.mending.proofs.steps.fit_entries.Given as goal

abbrev pub invariant-loop-s : goal.invariant-loop-s
invariant-loop-s l = MapsRun l.fn.sizes 3 l.initial.maps l.initial.changes l.n l.s l.maps l.changes l.count
