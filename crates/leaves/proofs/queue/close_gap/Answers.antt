-- `close_gap` meets its contract: the turns of its loop and its last store are those of the store.
use mathlib.Core.Path.{◌≡◌, ap, sym, ◌∙◌}
use Prim.Native.Nat.{ℕ, ◌+◌, ◌-◌}
use native.Mathlib.Omega.{arith}
use lib.ListN.{length, set, get_or-eq_default}
use Rattle.tables.specs.StoreLoops.{turned_none, turn_on, turned_all, turned_at}
use Rattle.leaves.proofs.Queues.{from, next}
use Rattle.leaves.proofs.queue.close_gap.Goals as goal

-- no entry from j on: nothing is stored
pub returns-then-j-n : goal.returns-then-j-n
returns-then-j-n c =
    turned_all c.args.j (turned_none c.args.q.now (from c.args.j) (next c.args.q.now) c.args.j (λ i h. omega arith)) (λ i h k. omega arith)

pub loop-k-init : goal.loop-k-init
loop-k-init c = turned_none _ _ _ _ (λ i h. omega arith)

pub loop-k-preserved : goal.loop-k-preserved
loop-k-preserved c =
    let l = c.loop-k in
    turn_on l.k l.invariant (omega arith) (λ h. omega arith) _ (turned_at l.k l.invariant (l.k + 1) (omega arith))

-- the last entry has no next one
pub returns : goal.returns
returns c =
    let l = c.loop-k in
    let q₀ = c.args.q.now in
    let e : length q₀ - 1 ≡ l.k = omega arith in
    ap (λ (i : ℕ). set l.q i 0) e ∙ turned_all (l.k + 1) (turn_on l.k l.invariant (omega arith) (λ h. omega arith) 0 (sym (get_or-eq_default q₀ 0 (omega arith)))) (λ i h k. omega arith)
