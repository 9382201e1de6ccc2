use Rattle.mending.specs.AccountStep.{AccountsRun}
use Rattle.mending.proofs.steps.fit_accounts.Given as goal

abbrev pub invariant-loop-s : goal.invariant-loop-s
invariant-loop-s l = AccountsRun l.fn.sizes l.initial.accounts l.initial.changes l.n l.s l.accounts l.changes l.count
