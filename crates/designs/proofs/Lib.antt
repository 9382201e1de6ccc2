-- Laws that the proofs of this crate share.
pub mod Tests
pub mod Asked
pub mod Carried
pub mod Kept
pub mod Filed
pub mod Turned
