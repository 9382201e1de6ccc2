-- `push_front` meets its contract: the turns of its loop are those of a store at every entry.
use mathlib.Core.Path.{refl, ◌∙◌}
use native.Mathlib.Omega.{arith}
use native.Mathlib.Numerals.{add-one}
use Rattle.tables.specs.StoreLoops.{turned_none, turn_on, turned_all, turned_at}
use Rattle.leaves.proofs.Queues.{front_stored}
use Rattle.leaves.proofs.queue.push_front.Goals as goal

pub loop-entry-init : goal.loop-entry-init
loop-entry-init c = (refl, turned_none _ _ _ _ (λ i h. omega arith))

pub loop-entry-preserved : goal.loop-entry-preserved
loop-entry-preserved c =
    let l = c.loop-entry in
    let k = l.entry-index in (
      rw (add-one k) (c.replace-carried.ensures.value ∙ turned_at k l.invariant.1 k (omega arith)),
      turn_on k l.invariant.1 (omega arith) tt _ (c.replace-carried.ensures.after ∙ l.invariant.0),
    )

pub returns : goal.returns
returns c = turned_all _ c.loop-entry.invariant.1 (λ i h k. omega arith) ∙ front_stored c.args.q.now c.requires.1 c.args.f c.requires.2
