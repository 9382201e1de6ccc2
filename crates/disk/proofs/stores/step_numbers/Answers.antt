-- `step_numbers` meets its contract: case by case.
use Rattle.disk.proofs.stores.step_numbers.Goals as goal

pub returns-in-Done : goal.returns-in-Done
returns-in-Done c =
    rw c.in-Done.is

pub returns-in-Content : goal.returns-in-Content
returns-in-Content c =
    rw c.in-Content.is

pub returns-in-Sync : goal.returns-in-Sync
returns-in-Sync c =
    rw c.in-Sync.is

pub returns-in-Commit : goal.returns-in-Commit
returns-in-Commit c =
    rw c.in-Commit.is

pub returns-in-Home : goal.returns-in-Home
returns-in-Home c =
    rw c.in-Home.is
