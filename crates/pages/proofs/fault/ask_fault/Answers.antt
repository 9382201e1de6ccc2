-- `ask_fault` meets its contract: the three parts of its questions, one after the other.
use Rattle.std.proofs.lemmas.Result.{err_from_is_err_and}
use mathlib.Core.Path.{ap, sym, ◌∙◌}
use Prim.Native.Nat.{ℕ}
use Rattle.tables.specs.Laws.{T→true}
use Rattle.tables.specs.Also.{◌also◌}
use Rattle.tables.specs.Questions.{Questions, first_no, all_yes}
use Rattle.model.specs.Refusals.{no_also, yes_also}
use Rattle.model.specs.State.{page_of}
use Rattle.model.specs.Laws.Bounds.{page_most}
use Rattle.leaves.specs.Asks.{slot_asked}
use Rattle.leaves.specs.Packed.{frames_given}
use Rattle.pages.specs.Faults.{away_asked, supply_asked}
use Rattle.pages.proofs.fault.ask_fault.Goals as goal

pub returns-in_err-ask_slot : goal.returns-in_err-ask_slot
returns-in_err-ask_slot c =
    let a = c.args in
    let i : ℕ = page_of a.sizes a.slot a.page in
    let p = err_from_is_err_and c.from_residual.result c.from_residual.ensures.1 in
    rw (p.1, p.2) (no_also _ (slot_asked a.in_range a.slot a.numbers.now a.active.now) (away_asked a.sizes (frames_given a.sizes a.frames) i also supply_asked i a.addresses.now a.free a.free_queue.now) c.in_err-ask_slot.ensures)

pub page_of-i-requires : goal.page_of-i-requires
page_of-i-requires c =
    let t = all_yes 0 (slot_asked c.args.in_range c.args.slot c.args.numbers.now c.args.active.now) tt (sym c.in_ok-ask_slot.ensures) in
    let r = c.requires.1 (T→true _ t.0) in
    (c.requires.0.sizes, r.0, r.1)

pub ask_away-requires : goal.ask_away-requires
ask_away-requires c =
    let t = all_yes 0 (slot_asked c.args.in_range c.args.slot c.args.numbers.now c.args.active.now) tt (sym c.in_ok-ask_slot.ensures) in
    let r = c.requires.1 (T→true _ t.0) in
    (c.requires.0, rw c.page_of-i.ensures (page_most c.args.sizes c.requires.0.sizes c.args.slot c.args.page r.0 r.1))

pub returns-in_err-ask_away : goal.returns-in_err-ask_away
returns-in_err-ask_away c =
    let a = c.args in
    let i : ℕ = page_of a.sizes a.slot a.page in
    let away : Questions = away_asked a.sizes (frames_given a.sizes a.frames) i in
    let supply : Questions = supply_asked i a.addresses.now a.free a.free_queue.now in
    let n = c.in_err-ask_away.ensures ∙ ap (λ (j : ℕ). first_no (away_asked a.sizes (frames_given a.sizes a.frames) j)) c.page_of-i.ensures in
    let p = err_from_is_err_and c.from_residual-in_err-ask_away.result c.from_residual-in_err-ask_away.ensures.1 in
    rw (p.1, p.2) (no_also _ away supply n ∙ yes_also (slot_asked a.in_range a.slot a.numbers.now a.active.now) (away also supply) tt c.in_ok-ask_slot.ensures)

pub returns : goal.returns
returns c =
    let a = c.args in
    let i : ℕ = page_of a.sizes a.slot a.page in
    let away : Questions = away_asked a.sizes (frames_given a.sizes a.frames) i in
    let supply : Questions = supply_asked i a.addresses.now a.free a.free_queue.now in
    let ej = c.page_of-i.ensures in
    let n = c.in_ok-ask_away.ensures ∙ ap (λ (j : ℕ). first_no (away_asked a.sizes (frames_given a.sizes a.frames) j)) ej in
    c.ask_supply.ensures
    ∙ (λ t. first_no (supply_asked (ej t) a.addresses.now a.free a.free_queue.now))
    ∙ yes_also away supply tt n
    ∙ yes_also (slot_asked a.in_range a.slot a.numbers.now a.active.now) (away also supply) tt c.in_ok-ask_slot.ensures
