-- Each passes, or one does not.
use mathlib.Core.Path.{refl}
use borrow.Author.Rules.{rules}
use borrow.Author.Tests.{tests}
use Rattle.rules.specs.Passes.{new_number}
use Rattle.rules.proofs.Alls.{all_told}
use Rattle.rules.proofs.slots.numbers_ok.Goals as goal

pub returns : goal.returns
returns c =
    let a = c.args in
    all_told _ _ _ a.slots (λ s. new_number a.numbers.now s) refl c.all.ensures.ran (λ x q k. search (rules, tests)) (λ x q k. search (rules, tests))
