-- `ask_idle` meets its contract: the questions of the slot, then of its update.
use mathlib.Core.Path.{sym, ◌∙◌}
use Rattle.std.proofs.lemmas.Result.{err_from_is_err_and}
use Rattle.tables.specs.Questions.{yes_all}
use Rattle.model.specs.Refusals.{no_also, yes_also}
use Rattle.model.specs.Laws.Own.{first_no_holds}
use Rattle.leaves.specs.Asks.{slot_asked, ask_no_update}
use Rattle.leaves.proofs.asks.ask_idle.Goals as goal

pub returns-in_err-ask_slot : goal.returns-in_err-ask_slot
returns-in_err-ask_slot c =
    let a = c.args in
    let p = err_from_is_err_and c.from_residual.result c.from_residual.ensures.1 in
    rw (p.1, p.2) (no_also _ (slot_asked a.in_range a.slot a.numbers.now a.active.now) (ask_no_update a.slot a.updating.now) c.in_err-ask_slot.ensures)

pub returns-then-at-ne0 : goal.returns-then-at-ne0
returns-then-at-ne0 c =
    let a = c.args in
    sym (first_no_holds 10 _ _ (λ h. c.if-at-ne0.true (c.at.ensures ∙ h))) ∙ yes_also (slot_asked a.in_range a.slot a.numbers.now a.active.now) (ask_no_update a.slot a.updating.now) tt c.in_ok-ask_slot.ensures

pub returns : goal.returns
returns c =
    let a = c.args in
    sym (yes_all _ (sym c.at.ensures ∙ c.if-at-ne0.false, tt)) ∙ yes_also (slot_asked a.in_range a.slot a.numbers.now a.active.now) (ask_no_update a.slot a.updating.now) tt c.in_ok-ask_slot.ensures
