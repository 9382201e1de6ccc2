-- The four rules' tests together are the slot's.
use Rattle.tables.specs.Turn.{four}
use Rattle.rules.proofs.slots.memory_slot_ok.Goals as goal

pub returns : goal.returns
returns c =
    let switch-fit = c.switch_fit in
    four _ _ _ _ _ _ _ _ switch-fit.ensures c.switch_fit-2.ensures c.active_filled.ensures c.update_active.ensures
