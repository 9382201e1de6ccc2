-- `page` meets its contract: each arm's tag leads to its event, and any other is looked for in `writeback`.
use mathlib.Core.Path.{◌∙◌}
use mathlib.Core.List.{◌++◌}
use Rattle.model.specs.Requests.{page_kinds, writeback_kinds, account_kinds, waiting_kinds}
use Rattle.model.proofs.Tagged.{passed}
use Rattle.model.proofs.request.page.Goals as goal

pub returns-in_default : goal.returns-in_default
returns-in_default c = let r = c.args.request in
    c.writeback.ensures ∙ passed r.kind Unit (page_kinds r) (writeback_kinds r ++ account_kinds r ++ waiting_kinds r) c.in_default.in_default-own.rest

pub returns-in-5 : goal.returns-in-5
returns-in-5 c = rw c.in-5.is

pub returns-in-6 : goal.returns-in-6
returns-in-6 c = rw c.in-6.is

pub returns-in-7 : goal.returns-in-7
returns-in-7 c = rw c.in-7.is

pub returns-in-9 : goal.returns-in-9
returns-in-9 c = rw c.in-9.is

pub returns-in-10 : goal.returns-in-10
returns-in-10 c = rw c.in-10.is
