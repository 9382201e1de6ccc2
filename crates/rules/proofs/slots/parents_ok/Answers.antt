-- Each passes, or one does not.
use mathlib.Core.Path.{refl}
use borrow.Author.Rules.{rules}
use borrow.Author.Tests.{tests}
use Rattle.tables.specs.Base.{at}
use Rattle.tables.specs.Rule.{below, ◌then◌}
use Rattle.rules.proofs.Alls.{all_told}
use Rattle.rules.proofs.slots.parents_ok.Goals as goal

pub returns : goal.returns
returns c =
    let a = c.args in
    all_told _ _ _ a.accounts (λ k. below 0 k then below (at a.parents.now k) k) refl c.all.ensures.ran (λ x q k. search (rules, tests)) (λ x q k. search (rules, tests))
