-- Laws that the proofs of this crate share.
pub mod ItsFrame
pub mod Served
pub mod InFrame
pub mod Ways
pub mod Holding
pub mod Faulting
pub mod Faulted
pub mod Charging
pub mod Writing
