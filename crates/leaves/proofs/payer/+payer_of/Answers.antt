-- By the account's own limit, else by its parent, where that is lower.
use mathlib.Core.Path.{sym, ◌∙◌}
use mathlib.Core.Logic.{inl, inr}
use native.Mathlib.Omega.{arith}
use Rattle.tables.specs.Base.{at}
use Rattle.model.specs.Payer.{payer_self}
use Rattle.leaves.specs.Payers.{by_parent}
use Rattle.leaves.proofs.payer.+payer_of.Goals as goal

pub returns-then-account-eq0 : goal.returns-then-account-eq0
returns-then-account-eq0 t c = sym (payer_self _ _ _ (inl c.if-account-eq0.true))

pub returns-then-at-gt0 : goal.returns-then-at-gt0
returns-then-at-gt0 t c = sym (payer_self _ _ _ (inr (inl (omega (arith, c.at.ensures, c.if-at-gt0.true)))))

pub returns-then-parent-account : goal.returns-then-parent-account
returns-then-parent-account t c =
    let a = c.args in
    c.payer_of.ensures ∙ by_parent (at a.parents.now) (at a.limits.now) a.account c.from-parent.result (c.from-parent.ensures ∙ c.at-2.ensures)
    c.if-account-eq0.false (omega (arith, c.at.ensures, c.if-at-gt0.false)) c.if-parent-account.true

pub returns : goal.returns
returns t c = sym (payer_self _ _ _ (inr (inr (λ l. omega (arith, l, c.from-parent.ensures, c.at-2.ensures, c.if-parent-account.false)))))
