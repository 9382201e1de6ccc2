-- `take` meets its contract: none, or a record by its parts.
use Rattle.model.specs.Pool.{taken, taken_made}
use Rattle.leaves.proofs.pool.take.Goals as goal

pub returns-then-n-eq0 : goal.returns-then-n-eq0
unfolding taken
returns-then-n-eq0 c = rw c.if-n-eq0.true

pub returns : goal.returns
returns c = taken_made c.args.sizes c.args.n c.args.pool c.if-n-eq0.false c.past-hand.ensures c.saturating_sub.ensures
