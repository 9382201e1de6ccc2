use Prim.Native.Nat.{suc}
use lib.ListN.{length}
use Rattle.leaves.specs.ByEntry.{Begun}
use Rattle.restarts.proofs.queue.fill_queue.Given as goal

abbrev pub invariant-loop-k : goal.invariant-loop-k
invariant-loop-k l = Begun (length l.initial.q) (λ i. suc i) l.k l.q
