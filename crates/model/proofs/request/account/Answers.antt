-- `account` meets its contract: each arm's tag leads to its event, and any other is looked for in `waiting`.
use mathlib.Core.Path.{◌∙◌}
use Rattle.model.specs.Requests.{account_kinds, waiting_kinds}
use Rattle.model.proofs.Tagged.{passed}
use Rattle.model.proofs.request.account.Goals as goal

pub returns-in_default : goal.returns-in_default
returns-in_default c = let r = c.args.request in
    c.waiting.ensures ∙ passed r.kind Unit (account_kinds r) (waiting_kinds r) c.in_default.in_default-own.rest

pub returns-in-15 : goal.returns-in-15
returns-in-15 c = rw c.in-15.is

pub returns-in-17 : goal.returns-in-17
returns-in-17 c = rw c.in-17.is
