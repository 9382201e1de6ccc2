-- Laws that the proofs of this crate share.
pub mod Front
pub mod Carried
pub mod Forward
pub mod Printed
pub mod Pieces
