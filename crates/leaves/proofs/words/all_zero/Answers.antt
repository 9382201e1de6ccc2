-- `all_zero` meets its contract: the words passed, sixteen a turn, are 0; those that are left decide.
use mathlib.Core.Path.{◌≡◌, ap}
use mathlib.Core.List.{List}
use Prim.Native.Nat.{ℕ, ◌+◌, ◌-◌, ◌*◌, ◌≤◌}
use native.Mathlib.Omega.{arith}
use Rattle.tables.specs.Base.{at}
use Rattle.tables.specs.Rule.{same}
use Rattle.tables.specs.Turn.{none, again_run, fails_run, done_run}
use Rattle.leaves.proofs.Runs.{zeros_said}
use Rattle.leaves.proofs.words.all_zero.Goals as goal

-- word i of those from word w on
nth : (words : List ℕ) (start w i : ℕ) → same (at words (start + w + i)) 0 ≡ same (at words (start + (w + i))) 0
nth words start w i = ap (λ (m : ℕ). same (at words m) 0) (omega arith)

pub loop-w-init : goal.loop-w-init
loop-w-init c = (omega arith, none _)

pub all_zeros-requires : goal.all_zeros-requires
all_zeros-requires c =
    let left : (c.loop-w.w + 16 ≤ c.args.size) = omega (arith, c.loop-w.invariant.0, c.loop-w-test.true) in
    omega (arith, left, c.requires)

pub returns-then-not-all_zeros : goal.returns-then-not-all_zeros
returns-then-not-all_zeros c =
    let left : (c.loop-w.w + 16 ≤ c.args.size) = omega (arith, c.loop-w.invariant.0, c.loop-w-test.true) in
    fails_run c.loop-w.w 16 _ _ (nth c.args.words.now (c.args.part * c.args.size) c.loop-w.w) c.args.size left (zeros_said 16 _ c.args.words.now c.all_zeros.ensures) c.if-not-all_zeros.true

pub loop-w-preserved : goal.loop-w-preserved
loop-w-preserved c =
    let left : (c.loop-w.w + 16 ≤ c.args.size) = omega (arith, c.loop-w.invariant.0, c.loop-w-test.true) in
    (left, again_run c.loop-w.w 16 _ _ (nth c.args.words.now (c.args.part * c.args.size) c.loop-w.w) c.loop-w.invariant.1 (zeros_said 16 _ c.args.words.now c.all_zeros.ensures) c.if-not-all_zeros.false)

pub returns : goal.returns
returns c =
    done_run c.loop-w.w (c.args.size - c.loop-w.w) _ _ (nth c.args.words.now (c.args.part * c.args.size) c.loop-w.w) c.loop-w.invariant.1 c.args.size (omega (arith, c.loop-w.invariant.0)) (zeros_said _ _ c.args.words.now c.all_zeros-2.ensures)
