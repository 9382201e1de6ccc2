-- `clear_part` meets its contract: a part filled with 0 is the store of zeros.
use Rattle.leaves.proofs.Runs.{part_cleared}
use Rattle.leaves.proofs.words.clear_part.Goals as goal

pub returns : goal.returns
returns c = let a = c.args in part_cleared a.size a.part a.words.now c.fill.new.self c.requires.0 c.requires.1 (c.fill.ensures.after (λ y e. e))
