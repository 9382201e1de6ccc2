-- `list_payers` meets its contract: the entries passed are the payers, the others zeros still.
use native.Mathlib.Omega.{arith}
use Rattle.tables.specs.Base.{at}
use Rattle.model.specs.Payer.{payer_le}
use Rattle.leaves.specs.ByEntry.{rising_all, filled_tab}
use Rattle.leaves.specs.Payers.{past_list}
use Rattle.leaves.proofs.payer.list_payers.Goals as goal

-- who pays has no higher number than the account, which is one of 16 bits
pub overflow_cast-table : goal.overflow_cast-table
overflow_cast-table c =
    omega (arith, c.payer_in.ensures, payer_le (at c.args.parents.now) (at c.args.limits.now) c.from.result, c.from.ensures, c.type_inv.accounts c.loop-s.s)

pub returns : goal.returns
returns c =
    filled_tab (rising_all c.loop-s.invariant (λ i h. past_list c.args.accounts.now c.args.limits.now c.args.parents.now i (omega (arith, h, c.loop-s-test.false))))
