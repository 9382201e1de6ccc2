-- `ask_sheet` meets its contract: 29, then what `ask_pages` answers.
use mathlib.Core.Path.{sym, ◌∙◌}
use Rattle.std.proofs.lemmas.Result.{err_from_is_err_and}
use Rattle.carrying.proofs.Asking.{asks_29, asks_more, told_of}
use Rattle.carrying.proofs.asks.ask_sheet.Goals as goal

pub returns-in_default : goal.returns-in_default
returns-in_default c =
    let a = c.args in record {
      asked = asks_29 a.sizes a.account a.sheet.now a.free a.limits.now a.parents.now a.used.now (sym c.in_default.is ∙ c.parse.ensures);
      told = tt;
    }

pub returns-in_err-ask_pages : goal.returns-in_err-ask_pages
returns-in_err-ask_pages c =
    let a = c.args in
    let p = err_from_is_err_and c.from_residual.result c.from_residual.ensures.1 in
    rw (p.1, p.2) (record { asked = c.in_err-ask_pages.ensures ∙ asks_more a.sizes a.account a.sheet.now a.free a.limits.now a.parents.now a.used.now _ c.in-Some.ensures; told = tt })

pub returns : goal.returns
returns c =
    let a = c.args in record {
      asked = c.in_ok-ask_pages.ensures ∙ asks_more a.sizes a.account a.sheet.now a.free a.limits.now a.parents.now a.used.now _ c.in-Some.ensures;
      told = told_of a.sheet.now _ c.in-Some.ensures;
    }
