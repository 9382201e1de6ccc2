-- `activate` meets its contract: the questions, then addresses, states and switch.
use mathlib.Core.Path.{sym, ◌∙◌}
use mathlib.Core.List.{[]}
use native.Mathlib.Omega.{arith}
use Rattle.std.proofs.lemmas.Result.{err_from_is_err_and}
use Rattle.tables.specs.Questions.{all_yes}
use Rattle.tables.specs.StoreLoops.{part_fits}
use Rattle.model.specs.declared.event.Design.{Design}
use Rattle.model.specs.declared.event.Event.TheVariants as Event
use Rattle.model.specs.State.{State}
use Rattle.model.specs.Questions.{questions}
use Rattle.designs.specs.Seen.{seen_turns}
use Rattle.designs.proofs.Carried.{carried_out_holds, refused_holds, activate_addresses, activate_states, activate_active, filed_live}
use Rattle.designs.proofs.activate.activate.Goals as goal

pub returns-in_err-ask_activate : goal.returns-in_err-ask_activate
returns-in_err-ask_activate c =
    let state : State = let a = c.args in seen_turns [] a.numbers.now a.maps.now a.addresses.now a.states.now a.owners.now a.active.now [] in
    let event : Design = Design.Activate c.args.slot in
    let p = err_from_is_err_and c.from_residual.result c.from_residual.ensures.1 in
    let o = refused_holds c.args.sizes state event _ c.in_err-ask_activate.ensures in
    record {
      answer = rw (p.1, p.2) (λ i. (o i).answer);
      addresses = λ i. (o i).left.memory.held.addresses;
      states = λ i. (o i).left.memory.held.states;
      active = λ i. (o i).left.memory.slots.active;
    }

pub copy_slot-requires : goal.copy_slot-requires
copy_slot-requires c =
    let state : State = let a = c.args in seen_turns [] a.numbers.now a.maps.now a.addresses.now a.states.now a.owners.now a.active.now [] in
    let event : Design = Design.Activate c.args.slot in
    let a = c.args in
    let t = all_yes 0 (questions a.sizes state (Event.Design event)) tt (sym c.in_ok-ask_activate.ensures) in
    let i = part_fits a.sizes.slots a.sizes.pages a.slot t.0 in
    (c.requires.sizes.pages, omega (arith, i, c.requires.maps_long), omega (arith, i, c.requires.addresses_long))

pub move_all-requires : goal.move_all-requires
move_all-requires c = (c.requires.owners_long, filed_live)

pub returns : goal.returns
returns c =
    let state : State = let a = c.args in seen_turns [] a.numbers.now a.maps.now a.addresses.now a.states.now a.owners.now a.active.now [] in
    let event : Design = Design.Activate c.args.slot in
    let a = c.args in
    let o = carried_out_holds a.sizes state event c.in_ok-ask_activate.ensures in record {
      answer = λ i. (o i).answer;
      addresses = c.copy_slot.ensures ∙ activate_addresses a.sizes state a.slot ∙ (λ i. (o i).left.memory.held.addresses);
      states = c.move_all.ensures ∙ activate_states a.sizes state a.slot ∙ (λ i. (o i).left.memory.held.states);
      active = c.put.ensures ∙ activate_active a.sizes state a.slot ∙ (λ i. (o i).left.memory.slots.active);
    }
