use Rattle.leaves.specs.Search.{Unmarked}
use Rattle.leaves.proofs.search.next_word.Given as goal

abbrev pub invariant-loop-w : goal.invariant-loop-w
invariant-loop-w l = Unmarked l.map l.from l.w
