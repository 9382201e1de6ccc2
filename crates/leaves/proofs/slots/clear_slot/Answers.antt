-- `clear_slot` meets its contract: a slot's entries filled with 0 are the store of zeros.
use Rattle.leaves.proofs.Runs.{part_cleared}
use Rattle.leaves.proofs.slots.clear_slot.Goals as goal

pub returns : goal.returns
returns c = let a = c.args in part_cleared a.pages a.slot a.to.now c.fill.new.self c.requires.0 c.requires.1 (c.fill.ensures.after (λ y e. e))
