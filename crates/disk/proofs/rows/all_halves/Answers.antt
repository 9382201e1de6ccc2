-- The chain asks of each word whether it fits.
use borrow.Author.Rules.{rules}
use Rattle.tables.specs.Rule.{below}
use Rattle.journal.specs.Laws.Each.{each_of}
use Rattle.disk.proofs.rows.all_halves.Goals as goal

pub returns : goal.returns
returns c = each_of (λ x. below x 65536) c.args.words.now 128 c.all.result c.requires (search rules)
