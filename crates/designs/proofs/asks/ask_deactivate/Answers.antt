-- `ask_deactivate` meets its contract: the questions of the slot, then of what it holds.
use mathlib.Core.Path.{◌∙◌}
use mathlib.Core.List.{List}
use Prim.Native.Nat.{ℕ}
use lib.ListN.{take}
use Rattle.std.proofs.lemmas.Result.{err_from_is_err_and}
use Rattle.tables.specs.Questions.{Questions}
use Rattle.tables.specs.Also.{◌also◌}
use Rattle.model.specs.Questions.{would_store}
use Rattle.leaves.specs.Asks.{ask_filled, ask_active, ask_no_update}
use Rattle.leaves.specs.Packed.{unpacked}
use Rattle.designs.specs.Asks.{held_asked}
use Rattle.designs.proofs.Asked.{asked_no, asked_yes, asked_inside}
use Rattle.designs.proofs.asks.ask_deactivate.Goals as goal

-- what the first part asks after the range
abbrev idle_of : ℕ → List ℕ → List ℕ → List ℕ → Questions
idle_of slot numbers active updating = ask_filled slot numbers also ask_active slot active also ask_no_update slot updating

pub returns-in_err-ask_idle : goal.returns-in_err-ask_idle
unfolding would_store
returns-in_err-ask_idle c =
    let a = c.args in
    let held : Questions = held_asked a.sizes a.slot (take a.sizes.frames (unpacked a.frames.now)) a.maps.now a.addresses.now a.states.now a.owners.now in
    let p = err_from_is_err_and c.from_residual.result c.from_residual.ensures.1 in
    rw (p.1, p.2) (asked_no a.slot a.sizes.slots (idle_of a.slot a.numbers.now a.active.now a.updating.now) held _ c.in_err-ask_idle.ensures)

pub ask_held-requires : goal.ask_held-requires
ask_held-requires c =
    let a = c.args in
    let held : Questions = held_asked a.sizes a.slot (take a.sizes.frames (unpacked a.frames.now)) a.maps.now a.addresses.now a.states.now a.owners.now in
    (c.requires.0, asked_inside a.slot a.sizes.slots (idle_of a.slot a.numbers.now a.active.now a.updating.now) held tt c.in_ok-ask_idle.ensures, c.requires.1)

pub returns : goal.returns
unfolding would_store
returns c =
    let a = c.args in
    let held : Questions = held_asked a.sizes a.slot (take a.sizes.frames (unpacked a.frames.now)) a.maps.now a.addresses.now a.states.now a.owners.now in
    c.ask_held.ensures ∙ asked_yes a.slot a.sizes.slots (idle_of a.slot a.numbers.now a.active.now a.updating.now) held tt c.in_ok-ask_idle.ensures
