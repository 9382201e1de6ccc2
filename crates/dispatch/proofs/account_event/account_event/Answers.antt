-- `account_event` meets its contract: each arm hands on what questions 1 and 2 give, and its event's outcome over all tables.
use Rattle.dispatch.proofs.AccountLaws.{account_ready, limit_ready, limit_own, move_own}
use Rattle.dispatch.proofs.account_event.account_event.Goals as goal

pub limit-requires : goal.limit-requires
limit-requires c =
    limit_ready _ _ c.requires

pub move_pages-requires : goal.move_pages-requires
move_pages-requires c =
    account_ready _ _ c.requires

pub returns-in-Limit : goal.returns-in-Limit
returns-in-Limit c =
    let d = c.limit.ensures in rw c.in-Limit.is (limit_own _ _ c.requires _ _ d.answer d.limits d.used)

pub returns-in-Move : goal.returns-in-Move
returns-in-Move c =
    let d = c.move_pages.ensures in rw c.in-Move.is (move_own _ _ c.requires _ _ _ d.answer d.limits d.used)
