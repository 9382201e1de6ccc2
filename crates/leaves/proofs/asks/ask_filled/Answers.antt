-- `ask_filled` meets its contract: the first test that fails gives its number.
use mathlib.Core.Path.{sym, ◌∙◌}
use Rattle.tables.specs.Questions.{yes_all}
use Rattle.model.specs.Laws.Own.{first_yes, first_no_holds}
use Rattle.leaves.proofs.asks.ask_filled.Goals as goal

pub returns-then-not-in_range : goal.returns-then-not-in_range
returns-then-not-in_range c = sym (first_no_holds 3 _ _ (λ t. rw c.if-not-in_range.true at t))

pub returns-then-at-eq0 : goal.returns-then-at-eq0
returns-then-at-eq0 c = sym (first_yes 3 _ _ (rw c.if-not-in_range.false tt) ∙ first_no_holds 4 _ _ (λ h. h (sym c.at.ensures ∙ c.if-at-eq0.true)))

pub returns : goal.returns
returns c = sym (yes_all _ (rw c.if-not-in_range.false tt, (λ h. c.if-at-eq0.false (c.at.ensures ∙ h), tt)))
