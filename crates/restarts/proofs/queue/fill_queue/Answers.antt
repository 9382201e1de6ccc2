-- `fill_queue` meets its contract: each entry passed is one more than its place.
use native.Mathlib.Omega.{arith}
use Rattle.leaves.specs.ByEntry.{begun_all, filled_is}
use Rattle.restarts.specs.Restarts.{queued_all}
use Rattle.restarts.proofs.queue.fill_queue.Goals as goal

pub returns : goal.returns
returns c = filled_is (begun_all c.loop-k.invariant (omega arith)) _ (queued_all _)
