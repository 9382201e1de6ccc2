-- `carry` meets its contract: each family's outcome is the event's.
use mathlib.Core.Path.{refl, sym, ◌∙◌}
use Rattle.model.specs.declared.event.Event.TheVariants as Event
use Rattle.model.specs.State.{State}
use Rattle.model.specs.Lent.{lined_of, state_of}
use Rattle.model.specs.Pool.{taken, deposited}
use Rattle.leaves.specs.Packed.{frames_in}
use Rattle.model.specs.Laws.Nulled.{nulled_by}
use Rattle.dispatch.specs.Beside.{kept_alone, leaves_beside, nulls_beside}
use Rattle.events.proofs.carry.carry.Goals as goal

pub design_event-requires : goal.design_event-requires
design_event-requires c =
    let lent : State =
    let a = c.args in
    lined_of (frames_in a.sizes a.frames.now) a.pool a.records.now a.numbers.now a.accounts.now a.maps.now a.limits.now a.parents.now a.highest.now a.frame_words.now a.free_queue.now a.removal_list.now
    a.addresses.now a.states.now a.owners.now a.free_map.now a.active.now a.updating.now a.images.now a.line.now a.used.now in
    kept_alone c.args.sizes lent c.requires

pub account_event-requires : goal.account_event-requires
account_event-requires c =
    let lent : State =
    let a = c.args in
    lined_of (frames_in a.sizes a.frames.now) a.pool a.records.now a.numbers.now a.accounts.now a.maps.now a.limits.now a.parents.now a.highest.now a.frame_words.now a.free_queue.now a.removal_list.now
    a.addresses.now a.states.now a.owners.now a.free_map.now a.active.now a.updating.now a.images.now a.line.now a.used.now in
    kept_alone c.args.sizes lent c.requires

pub page_event-requires : goal.page_event-requires
page_event-requires c =
    let lent : State =
    let a = c.args in
    lined_of (frames_in a.sizes a.frames.now) a.pool a.records.now a.numbers.now a.accounts.now a.maps.now a.limits.now a.parents.now a.highest.now a.frame_words.now a.free_queue.now a.removal_list.now
    a.addresses.now a.states.now a.owners.now a.free_map.now a.active.now a.updating.now a.images.now a.line.now a.used.now in
    kept_alone c.args.sizes lent c.requires

pub writeback_event-requires : goal.writeback_event-requires
writeback_event-requires c =
    let lent : State =
    let a = c.args in
    lined_of (frames_in a.sizes a.frames.now) a.pool a.records.now a.numbers.now a.accounts.now a.maps.now a.limits.now a.parents.now a.highest.now a.frame_words.now a.free_queue.now a.removal_list.now
    a.addresses.now a.states.now a.owners.now a.free_map.now a.active.now a.updating.now a.images.now a.line.now a.used.now in
    kept_alone c.args.sizes lent c.requires

pub waiting_event-requires : goal.waiting_event-requires
waiting_event-requires c = c.requires

pub returns-in-Design : goal.returns-in-Design
unfolding taken deposited nulled_by
returns-in-Design c =
    let alone : State =
    let a = c.args in
    state_of (frames_in a.sizes a.frames.now) a.pool a.records.now a.numbers.now a.accounts.now a.maps.now a.limits.now a.parents.now a.highest.now a.frame_words.now a.free_queue.now a.removal_list.now
    a.addresses.now a.states.now a.owners.now a.free_map.now a.active.now a.updating.now a.images.now a.used.now in
    rw (c.in-Design.is, c.told.ensures) (record { left = leaves_beside c.args.line.now c.args.sizes alone (Event.Design c.in-Design.e) tt _ c.design_event.ensures; nulled = refl })

pub returns-in-Account : goal.returns-in-Account
unfolding taken deposited nulled_by
returns-in-Account c =
    let alone : State =
    let a = c.args in
    state_of (frames_in a.sizes a.frames.now) a.pool a.records.now a.numbers.now a.accounts.now a.maps.now a.limits.now a.parents.now a.highest.now a.frame_words.now a.free_queue.now a.removal_list.now
    a.addresses.now a.states.now a.owners.now a.free_map.now a.active.now a.updating.now a.images.now a.used.now in
    rw (c.in-Account.is, c.told-in-Account.ensures) (record { left = leaves_beside c.args.line.now c.args.sizes alone (Event.Account c.in-Account.e) tt _ c.account_event.ensures; nulled = refl })

pub returns-in-Page : goal.returns-in-Page
unfolding nulled_by
returns-in-Page c =
    let alone : State =
    let a = c.args in
    state_of (frames_in a.sizes a.frames.now) a.pool a.records.now a.numbers.now a.accounts.now a.maps.now a.limits.now a.parents.now a.highest.now a.frame_words.now a.free_queue.now a.removal_list.now
    a.addresses.now a.states.now a.owners.now a.free_map.now a.active.now a.updating.now a.images.now a.used.now in
    rw c.in-Page.is (record { left = leaves_beside c.args.line.now c.args.sizes alone (Event.Page c.in-Page.e) tt _ c.page_event.ensures.left; nulled = c.page_event.ensures.nulled })

pub returns-in-Writeback : goal.returns-in-Writeback
returns-in-Writeback c =
    let alone : State =
    let a = c.args in
    state_of (frames_in a.sizes a.frames.now) a.pool a.records.now a.numbers.now a.accounts.now a.maps.now a.limits.now a.parents.now a.highest.now a.frame_words.now a.free_queue.now a.removal_list.now
    a.addresses.now a.states.now a.owners.now a.free_map.now a.active.now a.updating.now a.images.now a.used.now in
    let e = Event.Writeback c.in-Writeback.e in
    rw c.in-Writeback.is (record {
      left = leaves_beside c.args.line.now c.args.sizes alone e tt _ c.writeback_event.ensures.left;
      nulled = c.writeback_event.ensures.nulled ∙ sym (nulls_beside c.args.line.now c.args.sizes alone e tt);
    })

pub returns-in-Waiting : goal.returns-in-Waiting
returns-in-Waiting c =
    rw c.in-Waiting.is c.waiting_event.ensures
