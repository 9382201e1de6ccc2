-- The invariant: the first p pages of the row that count are counted.
use Prim.Native.Nat.{◌+◌, ◌*◌}
use native.Mathlib.Omega.{arith}
use Rattle.tables.specs.Base.{at}
use Rattle.rules.specs.Passes.{used_page}
use Rattle.rules.proofs.Entries.{fit_le}
use Rattle.rules.proofs.Tally.{one_le, count_start, count_next, count_end, count_few}
use Rattle.accounts.proofs.count.count_row.Goals as goal

pub loop-p-init : goal.loop-p-init
loop-p-init c = count_start _

pub used_one-used-requires : goal.used_one-used-requires
used_one-used-requires c =
    let a = c.args in
    fit_le _ _ (at a.addresses.now) c.requires.3 (a.s * a.pages + c.loop-p.p) (omega (arith, c.loop-p-test.true, c.requires.0, c.requires.1))

pub overflow_add-used : goal.overflow_add-used
overflow_add-used c =
    let a = c.args in
    let i = a.s * a.pages + c.loop-p.p in
    omega (arith, count_few _ _ _ c.loop-p.invariant, one_le (used_page a.active (at a.maps.now i) (at a.addresses.now i) (at a.states.now)), c.used_one-used.ensures, c.loop-p-test.true, c.requires.0, c.requires.2)

pub loop-p-preserved : goal.loop-p-preserved
loop-p-preserved c =
    count_next _ _ _ _ c.loop-p.invariant c.used_one-used.ensures

pub returns : goal.returns
returns c = count_end _ _ _ _ c.loop-p.invariant c.loop-p.auto.p-end c.loop-p-test.false
