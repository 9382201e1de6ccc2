-- `writeback` meets its contract: each arm's tag leads to its event, and any other is looked for in `account`.
use mathlib.Core.Path.{◌∙◌}
use mathlib.Core.List.{◌++◌}
use Rattle.model.specs.Requests.{writeback_kinds, account_kinds, waiting_kinds}
use Rattle.model.proofs.Tagged.{passed}
use Rattle.model.proofs.request.writeback.Goals as goal

pub returns-in_default : goal.returns-in_default
returns-in_default c = let r = c.args.request in
    c.account.ensures ∙ passed r.kind Unit (writeback_kinds r) (account_kinds r ++ waiting_kinds r) c.in_default.in_default-own.rest

pub returns-in-8 : goal.returns-in-8
returns-in-8 c = rw c.in-8.is

pub returns-in-11 : goal.returns-in-11
returns-in-11 c = rw c.in-11.is

pub returns-in-12 : goal.returns-in-12
returns-in-12 c = rw c.in-12.is

pub returns-in-13 : goal.returns-in-13
returns-in-13 c = rw c.in-13.is

pub returns-in-14 : goal.returns-in-14
returns-in-14 c = rw c.in-14.is
