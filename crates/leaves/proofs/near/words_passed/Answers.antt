-- `words_passed` meets its contract: no word passed on either side has a mark.
use mathlib.Core.Path.{sym, ◌∙◌}
use Prim.Native.Nat.{◌+◌, ◌-◌}
use native.Mathlib.Omega.{arith}
use lib.Dec.{T, ltb, lt→ltb}
use Rattle.tables.specs.Base.{at}
use Rattle.tables.specs.FindLaws.{find_at, find_none}
use Rattle.tables.specs.Laws.{or_left, or_right}
use Rattle.leaves.specs.Search.{mark_around}
use Rattle.leaves.proofs.near.words_passed.Goals as goal
use Rattle.leaves.proofs.near.words_passed.Goals.{then-map-w-ne0-via-then-map-w-ne0, then-map-w-ne0-via-else-map-w-ne0+then-map-w-ne0-2}

pub returns-then-map-w-ne0 : goal.returns-then-map-w-ne0
returns-then-map-w-ne0 c =
    let a = c.args in
    let m = a.map.now in
    let k = c.loop-k.k in
    let here : T (mark_around m a.w k) = elim c.then-map-w-ne0.branch [
      | then-map-w-ne0-via-then-map-w-ne0 w ↦ or_left (ltb 0 (at m (a.w - k))) (ltb 0 (at m (a.w + k))) (lt→ltb 0 (at m (a.w - k)) (omega (arith, w.if-map-w-ne0.true)))
      | then-map-w-ne0-via-else-map-w-ne0+then-map-w-ne0-2 w ↦ or_right (ltb 0 (at m (a.w - k))) (ltb 0 (at m (a.w + k))) (lt→ltb 0 (at m (a.w + k)) (omega (arith, w.if-map-w-ne0-2.true)))
    ] in
    sym (find_at a.reach (mark_around m a.w) 0 k (omega arith) (omega arith) here (λ j h b. c.loop-k.invariant j b))

pub returns : goal.returns
returns c =
    let a = c.args in
    sym (find_none a.reach (mark_around a.map.now a.w) 0 (λ j h b. c.loop-k.invariant j (omega (arith, b, c.loop-k-test.false))) ∙ omega arith)
