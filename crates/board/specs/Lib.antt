-- The keeper over the journal, over a device that tears.
pub mod Calls
pub mod Board
pub mod Claims
