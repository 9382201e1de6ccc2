-- Laws that the proofs of this crate share.
pub mod Joined
pub mod Turned
pub mod Brought
