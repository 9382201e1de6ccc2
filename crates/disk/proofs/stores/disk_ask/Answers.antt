-- `disk_ask` meets its contract: the numbers of what the journal says.
use mathlib.Core.Path.{ap, ◌∙◌}
use Rattle.disk.specs.Journal.{step_of}
use Rattle.disk.proofs.stores.disk_ask.Goals as goal

pub returns : goal.returns
returns c =
    c.step_numbers.ensures ∙ ap step_of c.journal_ask.ensures
