-- `size` meets its contract: the first place of a 0 is as many.
use mathlib.Core.Path.{◌∙◌}
use Rattle.leaves.proofs.Queues.{size_by}
use Rattle.leaves.proofs.queue.size.Goals as goal

pub returns : goal.returns
returns c = c.unwrap_or.ensures ∙ size_by c.args.q.now c.place.result c.place.ensures.found c.place.ensures.none
