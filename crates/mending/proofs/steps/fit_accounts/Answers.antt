-- `fit_accounts` meets its contract: the invariant is `AccountsRun`, the pass before slot s.
use Rattle.mending.specs.AccountStep.{accounts_none, accounts_next, accounts_all}
use Rattle.mending.proofs.steps.fit_accounts.Goals as goal

pub loop-s-init : goal.loop-s-init
loop-s-init c = accounts_none _ _ _ _

pub loop-s-preserved : goal.loop-s-preserved
loop-s-preserved c =
    accounts_next _ _ _ _ c.loop-s.s c.requires.within.accounts c.loop-s-test.true c.requires.long c.account_above-count.ensures c.loop-s.invariant

pub returns : goal.returns
returns c =
    accounts_all _ _ _ _ _ c.requires.long c.loop-s-test.false c.loop-s.invariant
