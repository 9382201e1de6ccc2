use Rattle.mending.specs.Passes.{above, RowTo}
use Rattle.mending.proofs.slot.row_above.Given as goal

abbrev pub invariant-loop-p : goal.invariant-loop-p
invariant-loop-p l = RowTo l.reason l.s l.pages (above l.most) l.initial.maps l.initial.changes l.n l.p l.maps l.changes l.count
