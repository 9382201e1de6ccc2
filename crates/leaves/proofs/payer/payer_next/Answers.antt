-- `payer_next` meets its contract: the account itself, or its parent's payer, which stands in the table.
use mathlib.Core.Path.{sym, ◌∙◌}
use mathlib.Core.Logic.{inl, inr}
use native.Mathlib.Omega.{arith}
use Rattle.tables.specs.Base.{at}
use Rattle.model.specs.Payer.{payer_self}
use Rattle.leaves.specs.Payers.{by_parent}
use Rattle.leaves.proofs.payer.payer_next.Goals as goal

pub returns-then-next-eq0 : goal.returns-then-next-eq0
returns-then-next-eq0 c = sym (payer_self _ _ _ (inl c.if-next-eq0.true))

pub returns-then-at-gt0 : goal.returns-then-at-gt0
returns-then-at-gt0 c =
    sym (payer_self _ _ _ (inr (inl (omega (arith, c.at.ensures, c.if-at-gt0.true)))))

pub returns-then-parent-next : goal.returns-then-parent-next
returns-then-parent-next c =
    let a = c.args in
    c.from.ensures ∙ c.at-then-parent-next.ensures ∙ c.requires c.from-parent.result c.if-parent-next.true
    ∙ by_parent (at a.parents.now) (at a.limits.now) a.next c.from-parent.result (c.from-parent.ensures ∙ c.at-2.ensures)
    c.if-next-eq0.false (omega (arith, c.at.ensures, c.if-at-gt0.false)) c.if-parent-next.true

pub returns : goal.returns
returns c =
    sym (payer_self _ _ _ (inr (inr (λ l. omega (arith, l, c.from-parent.ensures, c.at-2.ensures, c.if-parent-next.false)))))
