-- Laws that the proofs of this crate share.
pub mod Refusing
pub mod Turning
pub mod Together
pub mod Whole
