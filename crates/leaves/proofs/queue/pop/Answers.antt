-- `pop` meets its contract: every entry takes the next one's value.
use mathlib.Core.Path.{◌∙◌}
use Rattle.leaves.proofs.Queues.{pop_stored}
use Rattle.leaves.proofs.queue.pop.Goals as goal

pub returns : goal.returns
returns c = c.close_gap.ensures ∙ pop_stored c.args.q.now c.requires.1
