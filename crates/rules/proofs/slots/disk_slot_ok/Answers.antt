-- The two rules' tests together are the slot's.
use Rattle.tables.specs.Turn.{both}
use Rattle.rules.proofs.slots.disk_slot_ok.Goals as goal

pub returns : goal.returns
returns c = both _ _ _ _ c.empty_account.ensures c.account_fit.ensures
