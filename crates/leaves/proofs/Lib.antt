-- Laws that the proofs of this crate share.
pub mod Runs
pub mod Along
pub mod Beside
pub mod Freeing
pub mod Queues
pub mod Searched
pub mod WordBits
