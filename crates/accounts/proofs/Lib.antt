-- Laws that the proofs of this crate share.
pub mod Counted
pub mod Carried
pub mod Left
pub mod Stays
