-- `decode` meets its contract: each arm's tag leads to its event, and any other is looked for in `page`; `decodes_by` gives the number of the answer.
use mathlib.Core.Path.{◌∙◌}
use mathlib.Core.List.{◌++◌}
use Rattle.model.specs.Requests.{design_kinds, page_kinds, writeback_kinds, account_kinds, waiting_kinds, decoded, decodes_by}
use Rattle.model.proofs.Tagged.{passed}
use Rattle.model.proofs.request.decode.Goals as goal

pub returns-in_default : goal.returns-in_default
unfolding decoded
returns-in_default c = let r = c.args.request in
    decodes_by r _ (c.page.ensures ∙ passed r.kind Unit (design_kinds r) (page_kinds r ++ writeback_kinds r ++ account_kinds r ++ waiting_kinds r) c.in_default.in_default-own.rest)

pub returns-in-1 : goal.returns-in-1
unfolding decoded
returns-in-1 c = decodes_by c.args.request _ (rw c.in-1.is)

pub returns-in-2 : goal.returns-in-2
unfolding decoded
returns-in-2 c = decodes_by c.args.request _ (rw c.in-2.is)

pub returns-in-3 : goal.returns-in-3
unfolding decoded
returns-in-3 c = decodes_by c.args.request _ (rw c.in-3.is)

pub returns-in-4 : goal.returns-in-4
unfolding decoded
returns-in-4 c = decodes_by c.args.request _ (rw c.in-4.is)
