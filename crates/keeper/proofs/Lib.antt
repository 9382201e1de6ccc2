-- Laws that the proofs of this crate share.
pub mod Copied
pub mod AnyLength
pub mod Refused
pub mod AnyList
