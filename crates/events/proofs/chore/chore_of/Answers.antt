-- `chore_of` meets its contract: family by family.
use Rattle.events.proofs.chore.chore_of.Goals as goal

pub returns-in-Design : goal.returns-in-Design
returns-in-Design c = rw c.in-Design.is c.design_chore.ensures

pub returns-in-Page : goal.returns-in-Page
returns-in-Page c = rw c.in-Page.is c.page_chore.ensures

pub returns-in-Writeback : goal.returns-in-Writeback
returns-in-Writeback c = rw c.in-Writeback.is c.writeback_chore.ensures

pub returns-in-Waiting : goal.returns-in-Waiting
returns-in-Waiting c = rw c.in-Waiting.is c.waiting_chore.ensures
