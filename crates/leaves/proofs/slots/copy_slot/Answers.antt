-- `copy_slot` meets its contract: the turns of its loop are those of the store.
use mathlib.Core.Path.{refl}
use native.Mathlib.Omega.{arith}
use Rattle.tables.specs.StoreLoops.{turned_none, turn_on, turned_all, part_inside, inside_part}
use Rattle.leaves.proofs.slots.copy_slot.Goals as goal

pub loop-i-init : goal.loop-i-init
loop-i-init c = let a = c.args in turned_none _ _ _ _ (λ i h. omega (arith, part_inside a.pages a.slot c.requires.0 i h))

pub loop-i-preserved : goal.loop-i-preserved
loop-i-preserved c =
    let l = c.loop-i in
    let a = c.args in
    turn_on l.i l.invariant (omega arith) (inside_part a.pages a.slot c.requires.0 l.i (omega arith, omega arith)) _ refl

pub returns : goal.returns
returns c = let a = c.args in turned_all _ c.loop-i.invariant (λ i h k. omega (arith, part_inside a.pages a.slot c.requires.0 i k))
