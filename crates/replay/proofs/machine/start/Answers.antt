-- `start`: format's disk, then the restart.
use Rattle.replay.proofs.Carried.{by_start}
use Rattle.replay.proofs.machine.start.Goals as goal

pub returns : goal.returns
returns c = by_start _ _ c.sizes.ensures c.format.ensures c.cut.ensures (rw c.blank.ensures at c.carry.ensures)
