-- Each has enough, or one does not.
use mathlib.Core.Path.{refl}
use borrow.Author.Rules.{rules}
use borrow.Author.Tests.{tests}
use Rattle.tables.specs.Base.{at}
use Rattle.tables.specs.Rule.{same, below, non, ◌and◌, ◌or◌}
use Rattle.rules.proofs.Alls.{all_told}
use Rattle.accounts.proofs.shift.within.Goals as goal

pub returns : goal.returns
returns c =
    let a = c.args in
    all_told _ _ _ a.accounts (λ k. (same (at a.wanted.now k) (at a.limits.now k) and same (at a.totals.now k) (at a.used.now k)) or non (below (at a.wanted.now k) (at a.totals.now k)))
    refl c.all.ensures.ran (λ x q k. search (rules, tests)) (λ x q k. search (rules, tests))
