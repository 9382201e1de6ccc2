-- The chain asks of each home sector's number whether it is below the room.
use Rattle.std.proofs.Common.{◌+◌, rules, arith, refl}
use Rattle.tables.specs.Rule.{below}
use Rattle.journal.specs.Laws.Each.{each_between}
use Rattle.journal.proofs.homes_there.Goals as goal

pub returns : goal.returns
returns c = each_between (λ x. below x c.args.room) c.args.words.now 3 c.args.count (3 + c.args.count) c.all.result refl (omega arith) (search rules)
