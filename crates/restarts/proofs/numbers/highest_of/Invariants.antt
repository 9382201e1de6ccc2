use mathlib.Core.Path.{◌≡◌}
use Rattle.model.specs.Restart.{highest_of}
use Rattle.restarts.specs.Numbers.{numbered}
use Rattle.restarts.proofs.numbers.highest_of.Given as goal

abbrev pub invariant-loop-s : goal.invariant-loop-s
invariant-loop-s l = l.top ≡ highest_of (numbered l.numbers l.highest) l.s
