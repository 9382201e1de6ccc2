-- Each passes, or one does not.
use mathlib.Core.Path.{refl}
use borrow.Author.Rules.{rules}
use borrow.Author.Tests.{tests}
use Rattle.tables.specs.Base.{at}
use Rattle.rules.specs.Passes.{empty_row}
use Rattle.rules.proofs.Alls.{all_told}
use Rattle.rules.proofs.pages.empty_maps_ok.Goals as goal

pub returns : goal.returns
returns c =
    let a = c.args in
    all_told _ _ _ a.slots (λ s. empty_row a.pages s (at a.numbers.now s) a.maps.now) refl c.all.ensures.ran (λ x q k. search (rules, tests)) (λ x q k. search (rules, tests))
