-- `waiting` meets its contract: each arm's tag leads to its event, and any other is unknown.
use mathlib.Core.List.{[]}
use Rattle.model.specs.Requests.{waiting_kinds}
use Rattle.model.proofs.Tagged.{passed}
use Rattle.model.proofs.request.waiting.Goals as goal

pub returns-in_default : goal.returns-in_default
returns-in_default c = let r = c.args.request in passed r.kind Unit (waiting_kinds r) [] c.in_default.in_default-own.rest

pub returns-in-18 : goal.returns-in-18
returns-in-18 c = rw c.in-18.is

pub returns-in-19 : goal.returns-in-19
returns-in-19 c = rw c.in-19.is
