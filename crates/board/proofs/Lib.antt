-- The board's tables after every list of calls, cuts and kills, and what they rest on.
pub mod Becomes
pub mod Listed
pub mod Entries
pub mod Underway
pub mod Settled
pub mod Fitting
pub mod Sound
pub mod Recovered
pub mod Moves
pub mod Theorem
pub mod Finishes
pub mod Applied
pub mod Wrong
