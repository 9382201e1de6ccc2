-- The invariant: the entries from `start` up to i are taken.
use mathlib.Core.Path.{refl}
use native.Mathlib.Omega.{arith}
use Rattle.tables.specs.StoreLoops.{turned_none, turn_on, turned_all}
use Rattle.disk.proofs.rows.take_u32.Goals as goal

pub loop-i-init : goal.loop-i-init
loop-i-init c =
    turned_none _ _ _ _ (λ i h. omega (arith, h.0))

pub bounds-table-i : goal.bounds-table-i
bounds-table-i c =
    omega (arith, c.loop-i.invariant.long, c.requires.0, c.loop-i-test.true)

pub loop-i-preserved : goal.loop-i-preserved
loop-i-preserved c =
    turn_on c.loop-i.i c.loop-i.invariant (omega (arith, c.requires.0, c.loop-i-test.true)) (λ h. omega (arith, h, c.loop-i.auto.i), c.loop-i-test.true) _ refl

pub returns : goal.returns
returns c =
    turned_all c.loop-i.i c.loop-i.invariant (λ i h t. omega (arith, t.1, c.loop-i-test.false))
