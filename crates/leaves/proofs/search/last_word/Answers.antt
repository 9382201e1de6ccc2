-- `last_word` meets its contract: no word passed has a mark.
use mathlib.Core.Path.{◌≡◌, ◌∙◌}
use Prim.Native.Nat.{suc, ◌-◌, ◌<◌, ◌≤◌}
use native.Mathlib.Omega.{arith}
use lib.Dec.{ltb, ltb→lt, lt→ltb}
use Rattle.tables.specs.Base.{at, find}
use Rattle.tables.specs.FindLaws.{find_at, find_none}
use Rattle.leaves.proofs.search.last_word.Goals as goal

pub returns-then-map-last-ne0 : goal.returns-then-map-last-ne0
returns-then-map-last-ne0 c =
    let a = c.args in
    let m = a.map.now in
    let w = c.loop-last.last in
    let above : a.from < w = c.loop-last-test.true in
    let most : w ≤ a.to = omega arith in
    let e : a.to - suc (a.to - w) ≡ w - 1 = omega (arith, above, most) in
    let q : find (a.to - a.from) (λ k. ltb 0 (at m (a.to - suc k))) 0 ≡ a.to - w =
    find_at (a.to - a.from) (λ k. ltb 0 (at m (a.to - suc k))) 0 (a.to - w) (omega arith) (omega (arith, above, most)) (rw e (lt→ltb 0 (at m (w - 1)) (omega (arith, c.if-map-last-ne0.true))))
    (λ k h b t. omega (arith, ltb→lt 0 (at m (a.to - suc k)) t, c.loop-last.invariant (a.to - suc k) (omega (arith, b)) (omega (arith, b)))) in
    omega (arith, q, most, above)

pub returns : goal.returns
returns c =
    let a = c.args in
    let m = a.map.now in
    let q : find (a.to - a.from) (λ k. ltb 0 (at m (a.to - suc k))) 0 ≡ a.to - a.from =
    find_none (a.to - a.from) (λ k. ltb 0 (at m (a.to - suc k))) 0 (λ k h b t. omega (arith, ltb→lt 0 (at m (a.to - suc k)) t, c.loop-last.invariant (a.to - suc k) (omega (arith, b, c.loop-last-test.false)) (omega (arith, b)))) ∙ omega arith in
    omega (arith, q, c.requires.0)
