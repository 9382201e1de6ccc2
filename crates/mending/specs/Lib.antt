-- Mending a pack that restart turns away.
pub mod Mend
pub mod Edges
pub mod Places
pub mod Rules
pub mod Sound
pub mod Exact
pub mod Passes
pub mod Names
pub mod Steps
pub mod SlotSteps
pub mod AccountStep
pub mod EntrySteps
pub mod Answers
