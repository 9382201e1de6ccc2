-- `ask_update` meets its contract: the questions of the slot and of its update.
use mathlib.Core.Path.{◌∙◌}
use Rattle.leaves.specs.Asks.{asked_range, one_below}
use Rattle.writeback.proofs.update.ask_update.Goals as goal

pub returns : goal.returns
returns c =
    c.ask_idle.ensures ∙ asked_range _ _ _ (one_below c.args.slot c.args.sizes.slots)
