use Rattle.mending.specs.Passes.{of_shared, RowTo}
use Rattle.mending.proofs.named.row_shared.Given as goal

abbrev pub invariant-loop-p : goal.invariant-loop-p
invariant-loop-p l = RowTo 5 l.s l.pages (of_shared l.named) l.initial.maps l.initial.changes l.n l.p l.maps l.changes l.count
