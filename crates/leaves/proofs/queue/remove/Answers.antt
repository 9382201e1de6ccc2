-- `remove` meets its contract: the entries from the frame's place on take the next one's value.
use mathlib.Core.Path.{◌∙◌}
use Rattle.leaves.proofs.Queues.{remove_stored, remove_none}
use Rattle.leaves.proofs.queue.remove.Goals as goal

pub returns-in-Some : goal.returns-in-Some
returns-in-Some c = c.close_gap.ensures ∙ remove_stored c.args.q.now c.requires.1 c.args.f c.in-Some.k c.requires.2 c.in-Some.ensures.found

pub returns-in_default : goal.returns-in_default
returns-in_default c = remove_none c.args.q.now c.requires.1 c.args.f c.in_default.ensures.none
