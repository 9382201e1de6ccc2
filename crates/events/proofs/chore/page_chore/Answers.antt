-- `page_chore` meets its contract: kind by kind.
use mathlib.Core.Path.{ap}
use Rattle.events.specs.declared.chore.Chore.TheVariants.{Take}
use Rattle.events.proofs.chore.page_chore.Goals as goal

pub returns-in-Fault : goal.returns-in-Fault
returns-in-Fault c =
    rw c.in-Fault.is (ap Take c.first.ensures)
