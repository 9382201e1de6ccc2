-- `ask_delete` meets its contract: the questions of the slot, then of its map and its switch.
use mathlib.Core.Path.{sym, ◌∙◌}
use native.Mathlib.Omega.{arith}
use Rattle.std.proofs.lemmas.Result.{err_from_is_err_and}
use Rattle.tables.specs.Questions.{yes_all}
use Rattle.tables.specs.Turn.{said_yes, said_no}
use Rattle.model.specs.Laws.Own.{first_yes, first_no_holds}
use Rattle.model.specs.Laws.Bounds.{slot_most}
use Rattle.leaves.specs.Asks.{ask_filled}
use Rattle.designs.specs.Asks.{zero_map, empty_asked}
use Rattle.designs.proofs.Asked.{asked_no, asked_yes, asked_inside}
use Rattle.designs.proofs.asks.ask_delete.Goals as goal

pub returns-in_err-ask_filled : goal.returns-in_err-ask_filled
returns-in_err-ask_filled c =
    let a = c.args in
    let p = err_from_is_err_and c.from_residual.result c.from_residual.ensures.1 in
    rw (p.1, p.2) (asked_no a.slot a.sizes.slots (ask_filled a.slot a.numbers.now) (empty_asked a.maps.now a.active.now a.sizes.pages a.slot) _ c.in_err-ask_filled.ensures)

pub map_zero-requires : goal.map_zero-requires
map_zero-requires c =
    let a = c.args in
    let inside = asked_inside a.slot a.sizes.slots (ask_filled a.slot a.numbers.now) (empty_asked a.maps.now a.active.now a.sizes.pages a.slot) tt c.in_ok-ask_filled.ensures in
    omega (arith, slot_most a.sizes c.requires a.slot inside)

pub returns-then-not-map_zero : goal.returns-then-not-map_zero
returns-then-not-map_zero c =
    let a = c.args in
    sym (first_no_holds 7 _ _ (said_no (zero_map a.maps.now a.sizes.pages a.slot) c.map_zero.ensures c.if-not-map_zero.true))
    ∙ asked_yes a.slot a.sizes.slots (ask_filled a.slot a.numbers.now) (empty_asked a.maps.now a.active.now a.sizes.pages a.slot) tt c.in_ok-ask_filled.ensures

pub returns-then-at-eq1 : goal.returns-then-at-eq1
returns-then-at-eq1 c =
    let a = c.args in
    let empty = said_yes (zero_map a.maps.now a.sizes.pages a.slot) c.map_zero.ensures c.if-not-map_zero.false in
    sym (first_yes 7 _ _ empty ∙ first_no_holds 9 _ _ (λ h. h (sym c.at.ensures ∙ c.if-at-eq1.true)))
    ∙ asked_yes a.slot a.sizes.slots (ask_filled a.slot a.numbers.now) (empty_asked a.maps.now a.active.now a.sizes.pages a.slot) tt c.in_ok-ask_filled.ensures

pub returns : goal.returns
returns c =
    let a = c.args in
    let empty = said_yes (zero_map a.maps.now a.sizes.pages a.slot) c.map_zero.ensures c.if-not-map_zero.false in
    sym (yes_all _ (empty, (λ h. c.if-at-eq1.false (c.at.ensures ∙ h), tt)))
    ∙ asked_yes a.slot a.sizes.slots (ask_filled a.slot a.numbers.now) (empty_asked a.maps.now a.active.now a.sizes.pages a.slot) tt c.in_ok-ask_filled.ensures
