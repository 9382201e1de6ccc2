-- `all_zero` meets its contract: the bytes passed, 32 a turn, are 0; those that are left decide.
use mathlib.Core.Path.{◌≡◌, ap}
use mathlib.Core.List.{List}
use Prim.Native.Nat.{ℕ, ◌+◌, ◌-◌, ◌≤◌}
use native.Mathlib.Omega.{arith}
use Rattle.tables.specs.Base.{at}
use Rattle.tables.specs.Rule.{same}
use Rattle.tables.specs.Turn.{none, again_run, fails_run, done_run}
use Rattle.sheets.proofs.read.all_zero.Goals as goal

-- byte i of those from byte k on
nth : (s : List ℕ) (from k i : ℕ) → same (at s (from + k + i)) 0 ≡ same (at s (from + (k + i))) 0
nth s from k i = ap (λ (m : ℕ). same (at s m) 0) (omega arith)

pub loop-k-init : goal.loop-k-init
loop-k-init c = (omega arith, none _)

pub returns-then-not-zeros : goal.returns-then-not-zeros
returns-then-not-zeros c =
    let left : (c.loop-k.k + 32 ≤ c.args.n) = omega (arith, c.loop-k.invariant.0, c.loop-k-test.true) in
    fails_run c.loop-k.k 32 _ _ (nth c.args.s.now c.args.from c.loop-k.k) c.args.n left c.zeros.ensures c.if-not-zeros.true

pub loop-k-preserved : goal.loop-k-preserved
loop-k-preserved c =
    let left : (c.loop-k.k + 32 ≤ c.args.n) = omega (arith, c.loop-k.invariant.0, c.loop-k-test.true) in
    (left, again_run c.loop-k.k 32 _ _ (nth c.args.s.now c.args.from c.loop-k.k) c.loop-k.invariant.1 c.zeros.ensures c.if-not-zeros.false)

pub returns : goal.returns
returns c =
    done_run c.loop-k.k (c.args.n - c.loop-k.k) _ _ (nth c.args.s.now c.args.from c.loop-k.k) c.loop-k.invariant.1 c.args.n (omega (arith, c.loop-k.invariant.0)) c.zeros-2.ensures
