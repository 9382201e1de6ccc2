-- `push_back` meets its contract: the entry behind the last one is stored.
use mathlib.Core.Path.{refl, sym, ◌∙◌}
use native.Mathlib.Numerals.{add-one}
use Rattle.tables.specs.QueueEntries.{push_back_set}
use Rattle.leaves.proofs.queue.push_back.Goals as goal

pub returns : goal.returns
returns c =
    c.put.ensures ∙ rw (c.size-n.ensures, add-one c.args.f) (sym (push_back_set c.args.q.now refl c.requires.1.1 c.args.f c.requires.2))
