-- `disk_recover` meets its contract: the numbers of what the journal says.
use mathlib.Core.Path.{ap, ◌∙◌}
use Rattle.disk.specs.Journal.{recovery_of}
use Rattle.disk.proofs.stores.disk_recover.Goals as goal

pub returns : goal.returns
returns c =
    c.recovery_numbers.ensures ∙ ap recovery_of c.journal_recover.ensures
