-- `deactivate` meets its contract: the questions, then addresses, states and switch.
use mathlib.Core.Path.{sym, ◌∙◌}
use native.Mathlib.Omega.{arith}
use lib.ListN.{take}
use Rattle.std.proofs.lemmas.Result.{err_from_is_err_and}
use Rattle.tables.specs.Questions.{all_yes}
use Rattle.tables.specs.StoreLoops.{part_fits}
use Rattle.model.specs.declared.event.Design.{Design}
use Rattle.model.specs.declared.event.Event.TheVariants as Event
use Rattle.model.specs.State.{State}
use Rattle.model.specs.Questions.{questions}
use Rattle.leaves.specs.Packed.{unpacked}
use Rattle.designs.specs.Seen.{seen_turns}
use Rattle.designs.proofs.Carried.{carried_out_holds, refused_holds, deactivate_addresses, deactivate_states, deactivate_active, live_filed}
use Rattle.designs.proofs.deactivate.deactivate.Goals as goal

pub returns-in_err-ask_deactivate : goal.returns-in_err-ask_deactivate
returns-in_err-ask_deactivate c =
    let state : State = let a = c.args in
    seen_turns (take a.sizes.frames (unpacked a.frames.now)) a.numbers.now a.maps.now a.addresses.now a.states.now a.owners.now a.active.now a.updating.now in
    let event : Design = Design.Deactivate c.args.slot in
    let p = err_from_is_err_and c.from_residual.result c.from_residual.ensures.1 in
    let o = refused_holds c.args.sizes state event _ c.in_err-ask_deactivate.ensures in
    record {
      answer = rw (p.1, p.2) (λ i. (o i).answer);
      addresses = λ i. (o i).left.memory.held.addresses;
      states = λ i. (o i).left.memory.held.states;
      active = λ i. (o i).left.memory.slots.active;
    }

pub clear_slot-requires : goal.clear_slot-requires
clear_slot-requires c =
    let state : State = let a = c.args in
    seen_turns (take a.sizes.frames (unpacked a.frames.now)) a.numbers.now a.maps.now a.addresses.now a.states.now a.owners.now a.active.now a.updating.now in
    let event : Design = Design.Deactivate c.args.slot in
    let a = c.args in
    let t = all_yes 0 (questions a.sizes state (Event.Design event)) tt (sym c.in_ok-ask_deactivate.ensures) in
    (c.requires.sizes.pages, omega (arith, part_fits a.sizes.slots a.sizes.pages a.slot t.0, c.requires.addresses_long))

pub move_all-requires : goal.move_all-requires
move_all-requires c = (c.requires.owners_long, live_filed)

pub returns : goal.returns
returns c =
    let state : State = let a = c.args in
    seen_turns (take a.sizes.frames (unpacked a.frames.now)) a.numbers.now a.maps.now a.addresses.now a.states.now a.owners.now a.active.now a.updating.now in
    let event : Design = Design.Deactivate c.args.slot in
    let a = c.args in
    let o = carried_out_holds a.sizes state event c.in_ok-ask_deactivate.ensures in record {
      answer = λ i. (o i).answer;
      addresses = c.clear_slot.ensures ∙ deactivate_addresses a.sizes state a.slot ∙ (λ i. (o i).left.memory.held.addresses);
      states = c.move_all.ensures ∙ deactivate_states a.sizes state a.slot ∙ (λ i. (o i).left.memory.held.states);
      active = c.put.ensures ∙ deactivate_active a.sizes state a.slot ∙ (λ i. (o i).left.memory.slots.active);
    }
