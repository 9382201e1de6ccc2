-- The invariant: the first p pages of the row keep their rules, and the listed ones are counted.
use mathlib.Core.Path.{sym, ◌∙◌}
use Prim.Native.Nat.{◌+◌, ◌*◌}
use native.Mathlib.Omega.{arith}
use lib.Dec.{ltb}
use Rattle.tables.specs.Base.{at}
use Rattle.tables.specs.Rule.{same, each}
use Rattle.tables.specs.Turn.{none, again, fails, done, learn, unlearn, not_so}
use Rattle.rules.proofs.Entries.{fit_le, inactive_told, inactive_zero}
use Rattle.rules.proofs.Tally.{one_le, count_start, count_next, count_end, count_few}
use Rattle.rules.proofs.rows.inactive_row.Goals as goal

pub returns-then-not-address_active-clause-told : goal.returns-then-not-address_active-clause-told
returns-then-not-address_active-clause-told c =
    let args = c.args in let pre = c.requires in
    let address-active = c.address_active in
    not_so _ (λ h. unlearn (each _ λ k. same (at args.addresses.now (args.s * args.pages + k)) 0) (sym c.if-not-address_active.true ∙ address-active.ensures) (λ k l. inactive_zero _ _ _ _ _ _ pre.0 (h k l)))

pub loop-p-init : goal.loop-p-init
loop-p-init c =
    (none _, count_start _)

pub filed-requires : goal.filed-requires
filed-requires c =
    let args = c.args in let pre = c.requires in
    let loop = c.loop-p in
    let loop-test = c.loop-p-test in
    let e = fit_le _ _ (at args.maps.now) pre.5 (args.s * args.pages + loop.p) (omega (arith, loop-test.true, pre.1)) in (e, omega (arith, e, pre.4))

pub returns-then-not-filed-clause-told : goal.returns-then-not-filed-clause-told
returns-then-not-filed-clause-told c =
    let pre = c.requires in let args = c.args in
    let loop-test = c.loop-p-test in
    let loop = c.loop-p in
    let address-active = c.address_active in
    let filed = c.filed in
    fails loop.p _ _ loop-test.true (sym c.if-not-filed.true ∙ inactive_told _ _ _ _ _ _ pre.0 (learn (each _ λ k. same (at args.addresses.now (args.s * args.pages + k)) 0) (sym c.if-not-address_active.false ∙ address-active.ensures) loop.p loop-test.true) _ filed.ensures)

pub overflow_add-used : goal.overflow_add-used
overflow_add-used c =
    let args = c.args in let pre = c.requires in
    let loop-test = c.loop-p-test in
    let loop = c.loop-p in
    let listed-one = c.listed_one-used in
    let l = one_le (ltb 0 (at args.maps.now (args.s * args.pages + loop.p))) in omega (arith, count_few _ _ _ loop.invariant.1, l, listed-one.ensures, loop-test.true, pre.1, pre.3)

pub loop-p-preserved : goal.loop-p-preserved
loop-p-preserved c =
    let pre = c.requires in let args = c.args in
    let loop-test = c.loop-p-test in
    let loop = c.loop-p in
    let address-active = c.address_active in
    let filed = c.filed in
    let listed-one = c.listed_one-used in
    (again _ _ loop.invariant.0 (sym c.if-not-filed.false ∙ inactive_told _ _ _ _ _ _ pre.0 (learn (each _ λ k. same (at args.addresses.now (args.s * args.pages + k)) 0) (sym c.if-not-address_active.false ∙ address-active.ensures) loop.p loop-test.true) _ filed.ensures), count_next _ _ _ _ loop.invariant.1 listed-one.ensures)

pub returns : goal.returns
returns c =
    let args = c.args in
    let address-active = c.address_active in
    let loop = c.loop-p in
    let loop-test = c.loop-p-test in
    record {
      told = done _ _ _ loop.invariant.0 loop-test.false;
      zero = learn (each _ λ k. same (at args.addresses.now (args.s * args.pages + k)) 0) (sym c.if-not-address_active.false ∙ address-active.ensures);
      counted = count_end _ _ _ _ loop.invariant.1 loop.auto.p-end loop-test.false;
    }
