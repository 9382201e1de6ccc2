-- `store_parents` meets its contract: the entries passed are the wanted ones, account 0's 0.
use native.Mathlib.Omega.{arith}
use Rattle.leaves.specs.ByEntry.{begun_all, filled_tab}
use Rattle.restarts.proofs.format.store_parents.Goals as goal

pub returns : goal.returns
returns c = filled_tab (begun_all c.loop-a.invariant (omega arith))
