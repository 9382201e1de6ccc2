-- `writeback_event` meets its contract: each arm hands on what questions 1 and 2 give, and its event's outcome over all tables.
use mathlib.Core.Path.{refl}
use Rattle.writeback.proofs.ClaimLaws.{claim_ready}
use Rattle.writeback.proofs.Ready.{done_ready, map_ready, update_ready}
use Rattle.writeback.proofs.TruncateLaws.{truncate_ready}
use Rattle.model.specs.Laws.Nulled.{nulled_by}
use Rattle.dispatch.proofs.WritebackLaws.{claim_own, claim_nulls_holds, update_own, page_done_own, map_done_own, truncate_own}
use Rattle.model.specs.Pool.{taken, deposited}
use Rattle.dispatch.proofs.writeback_event.writeback_event.Goals as goal

pub claim-requires : goal.claim-requires
claim-requires c = claim_ready _ _ c.requires.fits c.requires.rules

pub truncate-requires : goal.truncate-requires
truncate-requires c = truncate_ready _ _ c.requires.fits c.requires.rules

pub update-requires : goal.update-requires
update-requires c = update_ready _ _ c.requires.fits c.requires.rules

pub page_done-requires : goal.page_done-requires
page_done-requires c = done_ready _ _ c.requires.fits c.requires.rules

pub map_done-requires : goal.map_done-requires
map_done-requires c = map_ready _ _ c.requires.fits c.requires.rules

pub returns-in-Claim : goal.returns-in-Claim
unfolding taken deposited
returns-in-Claim c =
    let d = c.claim.ensures in rw (c.in-Claim.is, c.claimed.ensures) (record { left = claim_own _ _ c.requires (record { answer = d.answer; frames = d.frames; free_queue = d.free_queue; removal_list = d.removal_list; states = d.states; used = d.used }); nulled = claim_nulls_holds _ _ c.requires d.nulled })

pub returns-in-Truncate : goal.returns-in-Truncate
unfolding taken deposited nulled_by
returns-in-Truncate c =
    let d = c.truncate.ensures in rw (c.in-Truncate.is, c.told.ensures) (record { left = truncate_own _ _ c.requires _ _ d; nulled = refl })

pub returns-in-Update : goal.returns-in-Update
unfolding taken deposited nulled_by
returns-in-Update c =
    let d = c.update.ensures in rw (c.in-Update.is, c.told-in-Update.ensures) (record { left = update_own _ _ c.requires _ d; nulled = refl })

pub returns-in-PageDone : goal.returns-in-PageDone
unfolding taken deposited nulled_by
returns-in-PageDone c =
    let d = c.page_done.ensures in rw (c.in-PageDone.is, c.told-in-PageDone.ensures) (record { left = page_done_own _ _ c.requires _ _ d; nulled = refl })

pub returns-in-MapDone : goal.returns-in-MapDone
unfolding taken nulled_by
returns-in-MapDone c =
    let d = c.map_done.ensures in rw (c.in-MapDone.is, c.freed.ensures) (record { left = map_done_own _ _ c.requires _ _ c.map_done.result.deposited d; nulled = refl })
