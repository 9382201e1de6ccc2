-- `affords` meets its contract.
use Rattle.std.proofs.Common.{arith}
use Rattle.carrying.proofs.Asking.{past_limit, within_limit}
use Rattle.carrying.proofs.asks.affords.Goals as goal

pub returns-then-in_use-most : goal.returns-then-in_use-most
returns-then-in_use-most c = rw (c.from-most.ensures, c.from-in_use.ensures) (within_limit c.args.limit c.args.used c.args.count (omega arith))

pub returns-else-in_use-most : goal.returns-else-in_use-most
returns-else-in_use-most c = rw (c.from-most.ensures, c.from-in_use.ensures) (past_limit c.args.limit c.args.used c.args.count (omega arith))
