-- `first` meets its contract: the first entry names the first frame.
use native.Mathlib.Omega.{arith}
use Rattle.leaves.proofs.Queues.{first_at}
use Rattle.leaves.proofs.queue.first.Goals as goal

pub returns : goal.returns
returns c = omega (arith, first_at c.args.q.now, c.at.ensures)
