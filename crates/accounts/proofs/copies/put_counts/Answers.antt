-- `put_counts` meets its contract: the entries passed are the counts.
use mathlib.Core.Path.{refl}
use native.Mathlib.Omega.{arith}
use Rattle.leaves.specs.ByEntry.{begun_none, begun_on, begun_all, filled_tab}
use Rattle.accounts.proofs.copies.put_counts.Goals as goal

pub loop-q-init : goal.loop-q-init
loop-q-init c = begun_none _ _

pub loop-q-preserved : goal.loop-q-preserved
loop-q-preserved c = begun_on c.loop-q.invariant (omega arith) _ refl

pub returns : goal.returns
returns c = filled_tab (begun_all c.loop-q.invariant (omega arith))
