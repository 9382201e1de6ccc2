-- The tests are the rule's, the owner's first.
use mathlib.Core.Path.{sym, ◌∙◌}
use native.Mathlib.Omega.{arith}
use Rattle.tables.specs.Turn.{learn, first_no_holds, second_told, four}
use Rattle.tables.specs.Rule.{below}
use Rattle.rules.proofs.records.record_ok.Goals as goal

pub returns-then-not-owner_fit : goal.returns-then-not-owner_fit
returns-then-not-owner_fit c = first_no_holds _ _ (sym c.if-not-owner_fit.true ∙ c.owner_fit.ensures)

pub leaving_begun-requires : goal.leaving_begun-requires
leaving_begun-requires c =
    let pre = c.requires in
    let owner-fit = c.owner_fit in
    omega (arith, learn (below _ _) (sym c.if-not-owner_fit.false ∙ owner-fit.ensures), pre.0)

pub returns : goal.returns
returns c =
    let state-fit = c.state_fit in
    let owner-fit = c.owner_fit in
    second_told _ _ _ (learn (below _ _) (sym c.if-not-owner_fit.false ∙ owner-fit.ensures)) (four _ _ _ _ _ _ _ _ state-fit.ensures c.held_by.ensures c.filed_by.ensures c.leaving_begun.ensures)
