use Rattle.tables.specs.StoreLoops.{Turned}
use Rattle.leaves.proofs.Queues.{from, next}
use Rattle.leaves.proofs.queue.close_gap.Given as goal

abbrev pub invariant-loop-k : goal.invariant-loop-k
invariant-loop-k l = Turned l.initial.q (from l.j) (next l.initial.q) l.k l.q
