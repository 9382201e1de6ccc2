-- `ask_import` meets its contract: create's questions, then the sheet's.
use mathlib.Core.Path.{◌∙◌}
use mathlib.Core.List.{[]}
use Rattle.std.proofs.lemmas.Result.{err_from_is_err_and}
use Rattle.tables.specs.Questions.{Questions}
use Rattle.model.specs.declared.event.Design.TheVariants as Design
use Rattle.model.specs.declared.event.Event.TheVariants as Event
use Rattle.model.specs.Questions.{questions, sheet_questions}
use Rattle.model.specs.Refusals.{no_also, yes_also}
use Rattle.designs.specs.Seen.{seen_create}
use Rattle.carrying.specs.Seen.{seen_asked}
use Rattle.carrying.proofs.asks.ask_import.Goals as goal

pub returns-in_err-ask_create : goal.returns-in_err-ask_create
returns-in_err-ask_create c =
    let slots : Questions = let a = c.args in questions a.sizes (seen_create a.numbers.now [] a.highest.now) (Event.Design (Design.Create a.slot a.account a.number)) in
    let sheets : Questions = let a = c.args in sheet_questions a.sizes (seen_asked a.free a.numbers.now a.limits.now a.parents.now a.highest.now a.used.now) a.account a.sheet.now in
    let p = err_from_is_err_and c.from_residual.result c.from_residual.ensures.1 in
    rw (p.1, p.2) (record { asked = no_also _ slots sheets c.in_err-ask_create.ensures; told = tt })

pub returns : goal.returns
returns c =
    let slots : Questions = let a = c.args in questions a.sizes (seen_create a.numbers.now [] a.highest.now) (Event.Design (Design.Create a.slot a.account a.number)) in
    let sheets : Questions = let a = c.args in sheet_questions a.sizes (seen_asked a.free a.numbers.now a.limits.now a.parents.now a.highest.now a.used.now) a.account a.sheet.now in
    record {
      asked = c.ask_sheet.ensures.asked ∙ yes_also slots sheets tt c.in_ok-ask_create.ensures;
      told = c.ask_sheet.ensures.told;
    }
