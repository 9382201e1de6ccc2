use Rattle.mending.specs.Passes.{packed}
use Rattle.mending.specs.SlotSteps.{PackRun}
use Rattle.mending.proofs.steps.empty_unfilled.Given as goal

abbrev pub invariant-loop-s : goal.invariant-loop-s
invariant-loop-s l = PackRun l.fn.sizes 1 (packed l.numbers l.initial.accounts l.initial.maps) l.initial.changes l.n l.s l.numbers l.accounts l.maps l.changes l.count
