-- `ask_create` meets its contract: the first test that fails gives its number.
use mathlib.Core.Path.{sym, ◌∙◌}
use native.Mathlib.Omega.{arith}
use Rattle.tables.specs.Questions.{yes_all}
use Rattle.tables.specs.Turn.{said_yes, said_no}
use Rattle.model.specs.Laws.Own.{first_yes, first_no_holds}
use Rattle.designs.specs.Asks.{new_number}
use Rattle.designs.proofs.Tests.{three_yes, three_no}
use Rattle.designs.proofs.asks.ask_create.Goals as goal

pub returns-then-not-in_range : goal.returns-then-not-in_range
returns-then-not-in_range c =
    let a = c.args in
    sym (first_no_holds 3 _ _ (three_no a.slot a.sizes.slots a.account a.sizes.accounts 0 a.number c.if-not-in_range.true))

pub returns-then-number-ge-HIGH : goal.returns-then-number-ge-HIGH
returns-then-number-ge-HIGH c =
    let a = c.args in
    let range = three_yes a.slot a.sizes.slots a.account a.sizes.accounts 0 a.number c.if-not-in_range.false in
    sym (first_yes 3 _ _ range ∙ first_no_holds 32 _ _ (λ h. omega (arith, h, c.if-number-ge-HIGH.true)))

pub returns-then-at-ne0 : goal.returns-then-at-ne0
returns-then-at-ne0 c =
    let a = c.args in
    let range = three_yes a.slot a.sizes.slots a.account a.sizes.accounts 0 a.number c.if-not-in_range.false in
    sym (first_yes 3 _ _ range ∙ first_yes 32 _ _ c.if-number-ge-HIGH.false ∙ first_no_holds 5 _ _ (λ h. c.if-at-ne0.true (c.at.ensures ∙ h)))

pub returns-then-not-number_new : goal.returns-then-not-number_new
returns-then-not-number_new c =
    let a = c.args in
    let range = three_yes a.slot a.sizes.slots a.account a.sizes.accounts 0 a.number c.if-not-in_range.false in
    sym (first_yes 3 _ _ range ∙ first_yes 32 _ _ c.if-number-ge-HIGH.false ∙ first_yes 5 _ _ (sym c.at.ensures ∙ c.if-at-ne0.false)
    ∙ first_no_holds 6 _ _ (said_no (new_number a.sizes.slots a.numbers.now a.number) c.number_new.ensures c.if-not-number_new.true))

pub returns-then-at-number : goal.returns-then-at-number
returns-then-at-number c =
    let a = c.args in
    let range = three_yes a.slot a.sizes.slots a.account a.sizes.accounts 0 a.number c.if-not-in_range.false in
    sym (first_yes 3 _ _ range ∙ first_yes 32 _ _ c.if-number-ge-HIGH.false ∙ first_yes 5 _ _ (sym c.at.ensures ∙ c.if-at-ne0.false)
    ∙ first_yes 6 _ _ (said_yes (new_number a.sizes.slots a.numbers.now a.number) c.number_new.ensures c.if-not-number_new.false)
    ∙ first_no_holds 33 _ _ (λ l. omega (arith, l, c.at-2.ensures, c.if-at-number.true)))

pub returns : goal.returns
returns c =
    let a = c.args in
    let range = three_yes a.slot a.sizes.slots a.account a.sizes.accounts 0 a.number c.if-not-in_range.false in
    let new = said_yes (new_number a.sizes.slots a.numbers.now a.number) c.number_new.ensures c.if-not-number_new.false in
    sym (yes_all _ (range, (c.if-number-ge-HIGH.false, (sym c.at.ensures ∙ c.if-at-ne0.false, (new, (omega (arith, c.at-2.ensures, c.if-at-number.false), tt))))))
