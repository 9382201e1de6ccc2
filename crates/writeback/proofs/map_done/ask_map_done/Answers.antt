-- `ask_map_done` meets its contract: the first question that fails.
use mathlib.Core.Path.{sym, ◌∙◌}
use mathlib.Core.Logic.{⊎_elim}
use native.Mathlib.Omega.{arith}
use Rattle.tables.specs.Questions.{yes_all}
use Rattle.model.specs.Laws.Own.{first_yes, first_no_holds}
use Rattle.writeback.proofs.map_done.ask_map_done.Goals as goal

pub returns-then-slot-sizes : goal.returns-then-slot-sizes
returns-then-slot-sizes c = sym (first_no_holds 3 _ _ (λ h. ⊎_elim (λ x. omega (arith, x, h.0)) (λ y. omega (arith, y, h.1)) c.then-slot-sizes.either))

pub returns-then-at-eq0 : goal.returns-then-at-eq0
returns-then-at-eq0 c = sym (first_yes 3 _ _ (omega arith, omega arith) ∙ first_no_holds 4 _ _ (λ h. h (sym c.at.ensures ∙ c.if-at-eq0.true)))

pub returns-then-at-ne1 : goal.returns-then-at-ne1
returns-then-at-ne1 c = sym (first_yes 3 _ _ (omega arith, omega arith) ∙ first_yes 4 _ _ (λ h. c.if-at-eq0.false (c.at.ensures ∙ h)) ∙ first_no_holds 8 _ _ (λ h. c.if-at-ne1.true (c.at-2.ensures ∙ h)))

pub returns-then-at-ne1-2 : goal.returns-then-at-ne1-2
returns-then-at-ne1-2 c = sym (first_yes 3 _ _ (omega arith, omega arith) ∙ first_yes 4 _ _ (λ h. c.if-at-eq0.false (c.at.ensures ∙ h)) ∙ first_yes 8 _ _ (sym c.at-2.ensures ∙ c.if-at-ne1.false)
    ∙ first_no_holds 22 _ _ (λ h. c.if-at-ne1-2.true (c.at-3.ensures ∙ h)))

pub returns : goal.returns
returns c = sym (yes_all _ ((omega arith, omega arith), (λ h. c.if-at-eq0.false (c.at.ensures ∙ h), (sym c.at-2.ensures ∙ c.if-at-ne1.false, (sym c.at-3.ensures ∙ c.if-at-ne1-2.false, tt)))))
