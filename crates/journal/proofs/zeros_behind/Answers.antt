-- The chain asks of each word behind the home sectors whether it is zero.
use Rattle.std.proofs.Common.{◌+◌, ◌-◌, rules, arith}
use Rattle.tables.specs.Rule.{same}
use Rattle.journal.specs.Laws.Each.{each_between}
use Rattle.journal.proofs.zeros_behind.Goals as goal

pub returns : goal.returns
returns c = each_between (λ x. same x 0) c.args.words.now (3 + c.args.count) (125 - c.args.count) 128 c.all.result (omega arith) (omega arith) (search rules)
