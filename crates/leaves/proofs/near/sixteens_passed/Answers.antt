-- `sixteens_passed` meets its contract: no page passed has an address.
use Prim.Native.Nat.{◌-◌}
use native.Mathlib.Omega.{arith}
use Rattle.tables.specs.Base.{at}
use Rattle.leaves.specs.Near.{none_passed, pass_all}
use Rattle.leaves.proofs.Searched.{run_zero}
use Rattle.leaves.proofs.Runs.{zeros_said}
use Rattle.leaves.proofs.near.sixteens_passed.Goals as goal

pub returns-then-addresses-page : goal.returns-then-addresses-page
returns-then-addresses-page c = (omega arith, none_passed (at c.args.addresses.now) c.args.page)

pub loop-k-init : goal.loop-k-init
loop-k-init c = (omega arith, omega arith, none_passed (at c.args.addresses.now) c.args.page)

pub loop-k-preserved : goal.loop-k-preserved
loop-k-preserved c =
    let a = c.args in
    (omega arith, omega (arith, c.loop-k-test.true), pass_all (at a.addresses.now) a.page c.loop-k.k 16 (a.page - 15 - c.loop-k.k) (omega (arith, c.loop-k-test.true, c.requires.0)) c.loop-k.invariant.2 (run_zero a.addresses.now (a.page - 15 - c.loop-k.k) 16 (zeros_said _ _ a.addresses.now c.all_zeros.ensures) c.if-not-all_zeros.false))
