-- Each passes, or one does not.
use mathlib.Core.Path.{refl}
use borrow.Author.Rules.{rules}
use borrow.Author.Tests.{tests}
use Rattle.tables.specs.Base.{at}
use Rattle.rules.specs.Passes.{disk_slot}
use Rattle.rules.proofs.Alls.{all_told}
use Rattle.rules.proofs.slots.disk_slots_ok.Goals as goal

pub returns : goal.returns
returns c =
    let a = c.args in
    all_told _ _ _ a.slots (λ s. disk_slot a.accounts (at a.numbers.now s) (at a.account.now s)) refl c.all.ensures.ran (λ x q k. search (rules, tests)) (λ x q k. search (rules, tests))
