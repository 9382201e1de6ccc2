-- `ask_slot` meets its contract: the questions of the slot, then of its switch.
use mathlib.Core.Path.{sym, ◌∙◌}
use Rattle.std.proofs.lemmas.Result.{err_from_is_err_and}
use Rattle.tables.specs.Questions.{yes_all}
use Rattle.model.specs.Refusals.{no_also, yes_also}
use Rattle.model.specs.Laws.Own.{first_no_holds}
use Rattle.leaves.specs.Asks.{filled_asked, ask_active}
use Rattle.leaves.proofs.asks.ask_slot.Goals as goal

pub returns-in_err-ask_filled : goal.returns-in_err-ask_filled
returns-in_err-ask_filled c =
    let a = c.args in
    let p = err_from_is_err_and c.from_residual.result c.from_residual.ensures.1 in
    rw (p.1, p.2) (no_also _ (filled_asked a.in_range a.slot a.numbers.now) (ask_active a.slot a.active.now) c.in_err-ask_filled.ensures)

pub returns-then-at-ne1 : goal.returns-then-at-ne1
returns-then-at-ne1 c =
    let a = c.args in
    sym (first_no_holds 8 _ _ (λ h. c.if-at-ne1.true (c.at.ensures ∙ h))) ∙ yes_also (filled_asked a.in_range a.slot a.numbers.now) (ask_active a.slot a.active.now) tt c.in_ok-ask_filled.ensures

pub returns : goal.returns
returns c =
    let a = c.args in
    sym (yes_all _ (sym c.at.ensures ∙ c.if-at-ne1.false, tt)) ∙ yes_also (filled_asked a.in_range a.slot a.numbers.now) (ask_active a.slot a.active.now) tt c.in_ok-ask_filled.ensures
