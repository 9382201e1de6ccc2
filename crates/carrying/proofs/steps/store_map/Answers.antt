-- `store_map` meets its contract.
use mathlib.Core.Path.{◌≡◌, ap, sym}
use Prim.Native.Nat.{◌+◌, ◌*◌, ◌<◌}
use native.Mathlib.Omega.{arith}
use lib.Arith.{digits_div, digits_mod}
use Rattle.tables.specs.Base.{at}
use Rattle.tables.specs.StoreLoops.{turned_none, turn_on, turned_all, part_inside}
use Rattle.carrying.proofs.steps.store_map.Goals as goal

pub loop-p-init : goal.loop-p-init
loop-p-init c = let a = c.args in turned_none _ _ _ _ (λ i h. omega (arith, part_inside a.pages a.slot c.requires.0 i h))

pub loop-p-preserved : goal.loop-p-preserved
loop-p-preserved c =
    let a = c.args in
    let less : c.loop-p.p < a.pages = omega arith in
    let e : a.slot * a.pages + c.loop-p.p + 1 ≡ a.slot * a.pages + (c.loop-p.p + 1) = omega arith in
    rw e at (turn_on (a.slot * a.pages + c.loop-p.p) c.loop-p.invariant (omega (arith, c.requires.1)) (digits_div a.slot less) _
    (ap (at a.entries.now) (sym (digits_mod a.slot less))))

pub returns : goal.returns
returns c = turned_all _ c.loop-p.invariant (λ i h k. omega (arith, part_inside c.args.pages c.args.slot c.requires.0 i k))
