use Rattle.leaves.specs.Search.{Unmarked}
use Rattle.leaves.proofs.search.last_word.Given as goal

abbrev pub invariant-loop-last : goal.invariant-loop-last
invariant-loop-last l = Unmarked l.map l.last l.to
