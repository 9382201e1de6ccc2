-- `ask_activate` meets its contract: the questions of the slot, then of its switch.
use mathlib.Core.Path.{sym, ◌∙◌}
use Rattle.std.proofs.lemmas.Result.{err_from_is_err_and}
use Rattle.tables.specs.Questions.{yes_all}
use Rattle.model.specs.Laws.Own.{first_no_holds}
use Rattle.leaves.specs.Asks.{ask_filled}
use Rattle.designs.specs.Asks.{inactive_asked}
use Rattle.designs.proofs.Asked.{asked_no, asked_yes}
use Rattle.designs.proofs.asks.ask_activate.Goals as goal

pub returns-in_err-ask_filled : goal.returns-in_err-ask_filled
returns-in_err-ask_filled c =
    let a = c.args in
    let p = err_from_is_err_and c.from_residual.result c.from_residual.ensures.1 in
    rw (p.1, p.2) (asked_no a.slot a.sizes.slots (ask_filled a.slot a.numbers.now) (inactive_asked a.active.now a.slot) _ c.in_err-ask_filled.ensures)

pub returns-then-at-eq1 : goal.returns-then-at-eq1
returns-then-at-eq1 c =
    let a = c.args in
    sym (first_no_holds 9 _ _ (λ h. h (sym c.at.ensures ∙ c.if-at-eq1.true)))
    ∙ asked_yes a.slot a.sizes.slots (ask_filled a.slot a.numbers.now) (inactive_asked a.active.now a.slot) tt c.in_ok-ask_filled.ensures

pub returns : goal.returns
returns c =
    let a = c.args in
    sym (yes_all _ (λ h. c.if-at-eq1.false (c.at.ensures ∙ h), tt)) ∙ asked_yes a.slot a.sizes.slots (ask_filled a.slot a.numbers.now) (inactive_asked a.active.now a.slot) tt c.in_ok-ask_filled.ensures
