-- `pay` meets its contract: a page that is charged costs nothing, any other one page where its payer's used is below limit.
use mathlib.Core.Path.{refl, ap, ◌∙◌}
use native.Mathlib.Omega.{arith}
use Prim.Native.Nat.{ℕ, ◌+◌}
use lib.ListN.{set}
use Rattle.tables.specs.Base.{at}
use Rattle.leaves.specs.Payers.{who_pays}
use Rattle.pages.specs.Writes.{charged1}
use Rattle.pages.proofs.Charging.{pay_yes, pay_no, pay_more, pay_none, pay_kept}
use Rattle.pages.proofs.charges.pay.Goals as goal

pub returns-then-charged : goal.returns-then-charged
returns-then-charged c =
    let who : ℕ = who_pays c.args.accounts.now c.args.limits.now c.args.parents.now c.args.slot in
    let a = c.args in
    record {
      told = pay_kept a.charged _ c.if-charged.true;
      used = pay_none a.charged (charged1 a.used.now who) a.used.now c.if-charged.true;
    }

pub returns-then-count-at : goal.returns-then-count-at
returns-then-count-at c =
    let who : ℕ = who_pays c.args.accounts.now c.args.limits.now c.args.parents.now c.args.slot in
    let a = c.args in
    let eq = c.slot_payer-payer.ensures in
    let eu = c.at-count.ensures ∙ ap (at a.used.now) eq in
    let el = c.at.ensures ∙ ap (at a.limits.now) eq in record {
      told = pay_yes a.charged c.if-charged.false (at a.used.now who) (at a.limits.now who) (omega (arith, c.if-count-at.true, el, eu));
      used = c.put.ensures ∙ (λ i. set a.used.now (eq i) (eu i + 1)) ∙ pay_more a.charged (charged1 a.used.now who) a.used.now c.if-charged.false;
    }

pub returns : goal.returns
returns c =
    let who : ℕ = who_pays c.args.accounts.now c.args.limits.now c.args.parents.now c.args.slot in
    let a = c.args in
    let eu = c.at-count.ensures ∙ ap (at a.used.now) c.slot_payer-payer.ensures in
    let el = c.at.ensures ∙ ap (at a.limits.now) c.slot_payer-payer.ensures in
    record {
      told = pay_no a.charged c.if-charged.false (at a.used.now who) (at a.limits.now who) (λ h. omega (arith, c.if-count-at.false, el, eu, h));
      used = refl;
    }
