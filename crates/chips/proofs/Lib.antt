-- Laws that the proofs of this crate share.
pub mod Copies
pub mod Dropping
pub mod Taking
pub mod Ruling
