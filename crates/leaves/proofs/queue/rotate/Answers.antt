-- `rotate` meets its contract: what is popped leaves room to be pushed.
use mathlib.Core.Path.{◌≡◌, refl, ap, ◌∙◌}
use native.Mathlib.Omega.{arith}
use Prim.Native.Nat.{ℕ, ◌<◌}
use lib.ListN.{length}
use mathlib.Core.List.{List}
use Rattle.tables.specs.Rule.{Holds}
use Rattle.tables.specs.Queue.{queue_of, size, push_back, pop}
use Rattle.tables.specs.QueueLaws.{size_le, size_pop, length_pop, queue_pop}
use Rattle.leaves.proofs.Queues.{first_at}
use Rattle.leaves.proofs.queue.rotate.Goals as goal

-- what is popped is a queue with room
popped : {m : ℕ} (q p : List ℕ) → p ≡ pop q → Holds (queue_of (length q) m q) → 0 < size q → Holds (queue_of (length p) m p) × (size p < length p)
popped q p e ok h = rw e (rw length_pop (queue_pop q refl ok), omega (arith, size_pop q, length_pop q, size_le q))

pub push_back-requires : goal.push_back-requires
push_back-requires c =
    let r = popped c.args.q.now c.pop.new.q c.pop.ensures c.requires.0.1 c.requires.1 in
    (omega (arith, first_at c.args.q.now, c.first-f.ensures, c.slice_known-1.given 0), (_, r.0), r.1)

pub returns : goal.returns
returns c =
    c.push_back.ensures ∙ ap (λ (l : List ℕ). push_back l c.first-f.result) c.pop.ensures ∙ ap (push_back (pop c.args.q.now)) c.first-f.ensures
