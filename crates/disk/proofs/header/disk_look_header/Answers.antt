-- `disk_look_header` meets its contract: the number of what the look found.
use mathlib.Core.Path.{ap, ◌∙◌}
use Rattle.disk.specs.Header.{header_number}
use Rattle.disk.proofs.header.disk_look_header.Goals as goal

pub returns : goal.returns
returns c =
    c.number.ensures ∙ ap header_number c.look.ensures
