-- `disk_look_commit` meets its contract: the numbers of what the journal says.
use mathlib.Core.Path.{ap, ◌∙◌}
use Rattle.disk.specs.Journal.{found_of}
use Rattle.disk.proofs.stores.disk_look_commit.Goals as goal

pub returns : goal.returns
returns c =
    c.look_numbers.ensures ∙ ap found_of c.journal_look.ensures
