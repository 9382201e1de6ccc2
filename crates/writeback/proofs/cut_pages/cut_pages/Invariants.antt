use Rattle.writeback.proofs.CutPages.{PagesTurn}
use Rattle.writeback.proofs.cut_pages.cut_pages.Given as goal

abbrev pub invariant-loop-i : goal.invariant-loop-i
invariant-loop-i l = PagesTurn l.pages l.slot l.k l.initial.addresses l.initial.states l.i l.addresses l.states l.n
