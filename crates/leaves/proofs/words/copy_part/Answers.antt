-- `copy_part` meets its contract: the turns of its loop are those of the store.
use mathlib.Core.Path.{◌≡◌, ap, sym}
use Prim.Native.Nat.{ℕ, ◌+◌, ◌*◌, ◌<◌}
use native.Mathlib.Omega.{arith}
use lib.Arith.{digits_div, digits_mod}
use Rattle.tables.specs.Base.{at}
use Rattle.tables.specs.StoreLoops.{turned_none, turn_on, turned_all, part_inside}
use Rattle.leaves.proofs.words.copy_part.Goals as goal

pub loop-w-init : goal.loop-w-init
loop-w-init c = let a = c.args in turned_none _ _ _ _ (λ i h. omega (arith, part_inside a.size a.to_part c.requires.0 i h))

pub loop-w-preserved : goal.loop-w-preserved
loop-w-preserved c =
    let l = c.loop-w in
    let a = c.args in
    let less : l.w < a.size = omega arith in
    let e : a.to_part * a.size + l.w + 1 ≡ a.to_part * a.size + (l.w + 1) = omega arith in
    rw e at (turn_on (a.to_part * a.size + l.w) l.invariant (omega arith) (digits_div a.to_part less) _
    (ap (λ (n : ℕ). at a.from.now (a.from_part * a.size + n)) (sym (digits_mod a.to_part less))))

pub returns : goal.returns
returns c = turned_all _ c.loop-w.invariant (λ i h k. omega (arith, part_inside c.args.size c.args.to_part c.requires.0 i k))
