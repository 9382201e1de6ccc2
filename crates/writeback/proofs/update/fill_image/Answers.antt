-- `fill_image` meets its contract: the turns of its loop are those of the store.
use native.Mathlib.Omega.{arith}
use Rattle.tables.specs.StoreLoops.{turned_none, turn_on, turned_all, part_inside, inside_part}
use Rattle.writeback.proofs.update.fill_image.Goals as goal

pub loop-i-init : goal.loop-i-init
loop-i-init c =
    let a = c.args in
    turned_none _ _ _ _ (λ i h. omega (arith, part_inside a.pages a.slot c.requires.0 i h))

pub loop-i-preserved : goal.loop-i-preserved
loop-i-preserved c =
    let a = c.args in
    turn_on c.loop-i.i c.loop-i.invariant (omega arith)
    (inside_part a.pages a.slot c.requires.0 c.loop-i.i (λ h. omega arith, omega arith)) _ c.live_address.ensures

pub returns : goal.returns
returns c =
    let a = c.args in
    turned_all _ c.loop-i.invariant (λ i h k. omega (arith, part_inside a.pages a.slot c.requires.0 i k))
