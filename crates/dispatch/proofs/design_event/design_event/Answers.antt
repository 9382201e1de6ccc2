-- `design_event` meets its contract: each arm hands on what questions 1 and 2 give, and its event's outcome over all tables.
use Rattle.dispatch.proofs.DesignLaws.{filed_ready, turned_ready, create_own, delete_own, activate_own, deactivate_own}
use Rattle.dispatch.proofs.design_event.design_event.Goals as goal

pub create-requires : goal.create-requires
create-requires c =
    filed_ready _ _ c.requires

pub delete-requires : goal.delete-requires
delete-requires c =
    filed_ready _ _ c.requires

pub activate-requires : goal.activate-requires
activate-requires c =
    turned_ready _ _ c.requires

pub deactivate-requires : goal.deactivate-requires
deactivate-requires c =
    turned_ready _ _ c.requires

pub returns-in-Create : goal.returns-in-Create
returns-in-Create c =
    let d = c.create.ensures in rw c.in-Create.is (create_own _ _ c.requires _ _ _ d.answer d.numbers d.accounts d.highest)

pub returns-in-Delete : goal.returns-in-Delete
returns-in-Delete c =
    let d = c.delete.ensures in rw c.in-Delete.is (delete_own _ _ c.requires _ d.answer d.numbers d.accounts)

pub returns-in-Activate : goal.returns-in-Activate
returns-in-Activate c =
    let d = c.activate.ensures in rw c.in-Activate.is (activate_own _ _ c.requires _ d.answer d.addresses d.states d.active)

pub returns-in-Deactivate : goal.returns-in-Deactivate
returns-in-Deactivate c =
    let d = c.deactivate.ensures in rw c.in-Deactivate.is (deactivate_own _ _ c.requires _ d.answer d.addresses d.states d.active)
