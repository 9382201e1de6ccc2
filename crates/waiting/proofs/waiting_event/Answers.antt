-- `waiting_event` meets its contract: a join's line is the whole outcome's, and a turn's outcome is the event's.
use mathlib.Core.Path.{refl}
use Rattle.model.specs.State.{State}
use Rattle.model.specs.Lent.{lined_of}
use Rattle.model.specs.Laws.Nulled.{nulled_by}
use Rattle.model.specs.Pool.{taken, deposited}
use Rattle.leaves.specs.Packed.{frames_in}
use Rattle.waiting.proofs.Joined.{join_own}
use Rattle.waiting.proofs.waiting_event.Goals as goal

pub join-requires : goal.join-requires
join-requires c = let k = c.requires in (k.fits.sizes, k.fits.memory.line, k.rules.line)

pub turn-requires : goal.turn-requires
turn-requires c = c.requires

pub returns-in-Join : goal.returns-in-Join
unfolding taken deposited nulled_by
returns-in-Join c =
    let lent : State =
    let a = c.args in
    lined_of (frames_in a.sizes a.frames.now) a.pool a.records.now a.numbers.now a.accounts.now a.maps.now a.limits.now a.parents.now a.highest.now a.frame_words.now a.free_queue.now a.removal_list.now
    a.addresses.now a.states.now a.owners.now a.free_map.now a.active.now a.updating.now a.images.now a.line.now a.used.now in
    rw (c.in-Join.is, c.told.ensures) (record { left = join_own c.args.sizes lent _ _ c.join.ensures.answer c.join.ensures.line; nulled = refl })

pub returns-in-Turn : goal.returns-in-Turn
returns-in-Turn c =
    rw c.in-Turn.is c.turn.ensures
