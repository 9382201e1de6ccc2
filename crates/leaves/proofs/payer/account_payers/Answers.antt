-- `account_payers` meets its contract: the accounts passed have their payers in the table.
use native.Mathlib.Omega.{arith}
use Rattle.tables.specs.Base.{at}
use Rattle.model.specs.Payer.{payer_le}
use Rattle.leaves.proofs.payer.account_payers.Goals as goal

-- who pays has no higher number than the account
pub overflow_cast-payers : goal.overflow_cast-payers
overflow_cast-payers c =
    omega (arith, c.payer_next-payer.ensures, payer_le (at c.args.parents.now) (at c.args.limits.now) c.loop-q.q, c.loop-q-test.true, c.requires.1)
