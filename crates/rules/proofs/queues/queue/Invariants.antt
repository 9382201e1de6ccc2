use mathlib.Core.Path.{◌≡◌}
use Prim.Native.Nat.{suc}
use Rattle.tables.specs.Base.{at}
use Rattle.tables.specs.Rule.{each, test}
use Rattle.rules.specs.Passes.{queue_entry}
use Rattle.rules.proofs.queues.queue.Given as goal

abbrev pub invariant-loop-k : goal.invariant-loop-k
invariant-loop-k l = l.ok ≡ test (each l.k (λ i. queue_entry l.bound (at l.entries i) (at l.entries (suc i))))
