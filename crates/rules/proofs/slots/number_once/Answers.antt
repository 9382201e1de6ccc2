-- An empty slot passes; a filled one where no slot before it has its number.
use mathlib.Core.Path.{refl}
use borrow.Author.Rules.{rules}
use borrow.Author.Tests.{tests}
use Rattle.tables.specs.Base.{at}
use Rattle.tables.specs.Rule.{each, same, non, test}
use Rattle.tables.specs.Turn.{unless, when}
use Rattle.rules.proofs.Alls.{all_told}
use Rattle.rules.proofs.slots.number_once.Goals as goal

pub returns-then-number-eq0 : goal.returns-then-number-eq0
returns-then-number-eq0 c = unless (non (same _ _)) (each _ _) (λ h. h c.if-number-eq0.true)

pub returns : goal.returns
unfolding test
returns c =
    let a = c.args in
    let here = at a.numbers.now a.s in
    when (non (same here 0)) (each a.s λ t. non (same (at a.numbers.now t) here)) _ c.if-number-eq0.false
    (all_told _ _ _ a.s (λ t. non (same (at a.numbers.now t) here)) refl c.all.ensures.ran (λ x q k. search (rules, tests)) (λ x q k. search (rules, tests)))
