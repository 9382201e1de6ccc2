-- `page_event` meets its contract: each arm hands on what questions 1 and 2 give, and its event's outcome over all tables.
use mathlib.Core.Path.{refl}
use Rattle.dispatch.proofs.PageLaws.{served_ready, listed_ready, read_own, wire_own, unwire_own}
use Rattle.dispatch.proofs.FaultLaws.{fault_ready, fault_own}
use Rattle.model.specs.Pool.{taken, deposited}
use Rattle.pages.specs.Faults.{fault_left}
use Rattle.dispatch.proofs.WriteLaws.{write_own}
use Rattle.dispatch.proofs.page_event.page_event.Goals as goal

pub fault-requires : goal.fault-requires
fault-requires c =
    fault_ready _ _ c.requires

pub read-requires : goal.read-requires
read-requires c =
    served_ready _ _ c.requires

pub write-requires : goal.write-requires
write-requires c =
    served_ready _ _ c.requires

pub wire-requires : goal.wire-requires
wire-requires c =
    (served_ready _ _ c.requires, listed_ready _ _ c.requires)

pub unwire-requires : goal.unwire-requires
unwire-requires c =
    (served_ready _ _ c.requires, listed_ready _ _ c.requires)

pub returns-in-Fault : goal.returns-in-Fault
unfolding taken deposited
returns-in-Fault c =
    let d = c.fault.ensures in rw (c.in-Fault.is, d.deposited) (record { left = fault_own _ _ c.requires _ _ _ (fault_left (d.frames, (d.words, (d.free_queue, (d.removal_list, (d.addresses, (d.states, (d.owners, (d.free_map, (d.hand, d.free)))))))))) d.answer; nulled = d.nulled })

pub returns-in-Read : goal.returns-in-Read
unfolding taken deposited
returns-in-Read c =
    let d = c.read.ensures in rw (c.in-Read.is, c.told.ensures) (record { left = read_own _ _ _ _ _ d.answer d.frames; nulled = refl })

pub returns-in-Write : goal.returns-in-Write
unfolding taken deposited
returns-in-Write c =
    let d = c.write.ensures in rw (c.in-Write.is, c.told-in-Write.ensures) (record { left = write_own _ _ c.requires _ _ _ _ d.answer d.frames d.words d.used; nulled = refl })

pub returns-in-Wire : goal.returns-in-Wire
unfolding taken deposited
returns-in-Wire c =
    let d = c.wire.ensures in rw (c.in-Wire.is, c.told-in-Wire.ensures) (record { left = wire_own _ _ _ _ d.answer d.frames d.list; nulled = refl })

pub returns-in-Unwire : goal.returns-in-Unwire
unfolding taken deposited
returns-in-Unwire c =
    let d = c.unwire.ensures in rw (c.in-Unwire.is, c.told-in-Unwire.ensures) (record { left = unwire_own _ _ _ _ d.answer d.frames d.list; nulled = refl })
