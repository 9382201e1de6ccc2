use mathlib.Core.Path.{◌≡◌}
use Prim.Native.Nat.{◌+◌}
use Rattle.tables.specs.StoreLoops.{Turned}
use Rattle.leaves.proofs.Queues.{shifted, every}
use Rattle.leaves.proofs.queue.push_front.Given as goal

abbrev pub invariant-loop-entry : goal.invariant-loop-entry
invariant-loop-entry l = (l.carried ≡ shifted (l.f + 1) l.initial.q l.entry-index) × Turned l.initial.q every (shifted (l.f + 1) l.initial.q) l.entry-index l.q
