-- The chain asks of each word from the place on whether it is zero.
use Prim.Native.Nat.{◌-◌}
use lib.ListN.{length}
use native.Mathlib.Omega.{arith}
use borrow.Author.Rules.{rules}
use Rattle.tables.specs.Rule.{same}
use Rattle.journal.specs.Laws.Each.{each_between}
use Rattle.disk.proofs.header.zeros_from.Goals as goal

pub returns : goal.returns
returns c = each_between (λ x. same x 0) c.args.words.now c.args.from (128 - c.args.from) (length c.args.words.now) c.all.result (omega arith) (omega arith) (search rules)
