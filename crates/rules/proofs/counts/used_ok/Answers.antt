-- Each passes, or one does not.
use mathlib.Core.Path.{refl}
use borrow.Author.Rules.{rules}
use borrow.Author.Tests.{tests}
use Rattle.tables.specs.Base.{at}
use Rattle.tables.specs.Rule.{same, test}
use Rattle.rules.proofs.Alls.{all_told}
use Rattle.rules.proofs.counts.used_ok.Goals as goal

pub returns : goal.returns
unfolding test
returns c =
    let a = c.args in
    all_told _ _ _ a.accounts (λ q. same (at a.used.now q) (at a.totals.now q)) refl c.all.ensures.ran (λ x q k. search (rules, tests)) (λ x q k. search (rules, tests))
