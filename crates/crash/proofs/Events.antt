-- Every event, carried out and noted, keeps the invariant of demand 3.
use Rattle.model.specs.declared.sizes.Sizes.{Sizes}
use Rattle.model.specs.declared.event.Design.TheVariants.{Create, Delete, Activate, Deactivate}
use Rattle.model.specs.declared.event.Page.TheVariants.{Fault, Read, Write, Wire, Unwire}
use Rattle.model.specs.declared.event.Writeback.TheVariants.{Claim, Truncate, Update, PageDone, MapDone}
use Rattle.model.specs.declared.event.Waiting.TheVariants.{Join, Turn}
use Rattle.model.specs.declared.event.Event.{Event}
use Rattle.model.specs.declared.event.Event.TheVariants as Event
use Rattle.crash.proofs.Steps.{Step}
use Rattle.crash.proofs.Quiet.{account, read, wire, unwire}
use Rattle.crash.proofs.Created.{create, delete}
use Rattle.crash.proofs.Activated.{activate}
use Rattle.crash.proofs.Deactivated.{deactivate}
use Rattle.crash.proofs.Faulted.{fault}
use Rattle.crash.proofs.Written.{write}
use Rattle.crash.proofs.Claimed.{claim}
use Rattle.crash.proofs.Truncated.{truncate}
use Rattle.crash.proofs.Updated.{update}
use Rattle.crash.proofs.PageEnd.{page_done}
use Rattle.crash.proofs.MapDone.{map_done}
use Rattle.crash.proofs.Waited.{join, turn}

pub steps : (z : Sizes) (e : Event) → Step z e
steps z (Event.Design (Create s q n)) = create z s q n
steps z (Event.Design (Delete s)) = delete z s
steps z (Event.Design (Activate s)) = activate z s
steps z (Event.Design (Deactivate s)) = deactivate z s
steps z (Event.Account e) = account z e
steps z (Event.Page (Fault s p)) = fault z s p
steps z (Event.Page (Read s p n)) = read z s p n
steps z (Event.Page (Write s p n x)) = write z s p n x
steps z (Event.Page (Wire s p)) = wire z s p
steps z (Event.Page (Unwire s p)) = unwire z s p
steps z (Event.Writeback Claim) = claim z
steps z (Event.Writeback (Truncate s k)) = truncate z s k
steps z (Event.Writeback (Update s)) = update z s
steps z (Event.Writeback (PageDone f good)) = page_done z f good
steps z (Event.Writeback (MapDone s good)) = map_done z s good
steps z (Event.Waiting (Join s p)) = join z s p
steps z (Event.Waiting Turn) = turn z
