-- `eights_down` meets its contract: of the words passed none has a mark.
use Prim.Native.Nat.{◌-◌}
use native.Mathlib.Omega.{arith}
use native.Mathlib.Decide.{dec_le}
use Rattle.leaves.proofs.Searched.{run_zero}
use Rattle.leaves.proofs.Runs.{zeros_said}
use Rattle.leaves.proofs.search.eights_down.Goals as goal

pub loop-w-preserved : goal.loop-w-preserved
loop-w-preserved c =
    let w = c.loop-w.w in
    (omega arith, omega (arith, c.loop-w.invariant.1), λ k h b. elim (dec_le w k) [ yes d ↦ c.loop-w.invariant.2 k d b | no d ↦ run_zero c.args.map.now (w - 8) 8 (zeros_said _ _ c.args.map.now c.all_zeros.ensures) c.if-not-all_zeros.false k h (omega (arith, d)) ])
