-- `deposit` meets its contract: none, or so many as 32 bits hold.
use native.Mathlib.Omega.{arith}
use Rattle.model.specs.Pool.{deposited, deposited_made}
use Rattle.leaves.proofs.pool.deposit.Goals as goal

pub returns-then-n-eq0 : goal.returns-then-n-eq0
unfolding deposited
returns-then-n-eq0 c = rw c.if-n-eq0.true

pub returns : goal.returns
returns c = deposited_made c.args.n c.args.pool c.if-n-eq0.false (omega arith)
