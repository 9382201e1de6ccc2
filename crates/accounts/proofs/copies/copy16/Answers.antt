-- `copy16` meets its contract: the entries passed are the source's.
use native.Mathlib.Omega.{arith}
use Rattle.leaves.specs.ByEntry.{begun_none, begun_on, begun_all, filled_tab}
use Rattle.accounts.proofs.copies.copy16.Goals as goal

pub loop-i-init : goal.loop-i-init
loop-i-init c = begun_none _ _

pub loop-i-preserved : goal.loop-i-preserved
loop-i-preserved c = begun_on c.loop-i.invariant (omega arith) _ c.at.ensures

pub returns : goal.returns
returns c = filled_tab (begun_all c.loop-i.invariant (omega arith))
