-- Each passes, or one does not.
use mathlib.Core.Path.{refl}
use borrow.Author.Rules.{rules}
use borrow.Author.Tests.{tests}
use Rattle.tables.specs.Base.{at}
use Rattle.tables.specs.Marks.{bit_of}
use Rattle.rules.specs.Passes.{record_row}
use Rattle.rules.proofs.Alls.{all_told}
use Rattle.rules.proofs.records.records_ok.Goals as goal

pub returns : goal.returns
returns c =
    let a = c.args in
    all_told _ _ _ a.records (λ r. record_row a.slots (bit_of a.held.now r) (bit_of a.listed.now r) (at a.states.now r) (at a.owners.now r) (at a.updating.now)) refl c.all.ensures.ran (λ x q k. search (rules, tests)) (λ x q k. search (rules, tests))
