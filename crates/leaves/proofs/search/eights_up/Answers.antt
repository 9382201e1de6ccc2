-- `eights_up` meets its contract: of the words passed none has a mark.
use native.Mathlib.Omega.{arith}
use native.Mathlib.Decide.{dec_lt}
use Rattle.leaves.proofs.Searched.{run_zero}
use Rattle.leaves.proofs.Runs.{zeros_said}
use Rattle.leaves.proofs.search.eights_up.Goals as goal

pub loop-w-preserved : goal.loop-w-preserved
loop-w-preserved c =
    (omega (arith, c.loop-w.invariant.0), omega arith, λ k h b. elim (dec_lt k c.loop-w.w) [ yes d ↦ c.loop-w.invariant.2 k h d | no d ↦ run_zero c.args.map.now c.loop-w.w 8 (zeros_said _ _ c.args.map.now c.all_zeros.ensures) c.if-not-all_zeros.false k (omega arith) b ])
