use Rattle.std.proofs.Common.{◌≡◌, ◌+◌, slice_index_or}
use Rattle.tables.specs.Rule.{is, each, test}
use Rattle.leaves.proofs.cells.all_zeros.Given as goal

abbrev pub invariant-loop-x : goal.invariant-loop-x
invariant-loop-x g l = l.ok ≡ test (each l.x-index (λ k. is (g.T.Entry.is_zero (slice_index_or l.s (l.from + k) g.T.Entry.zero))))
