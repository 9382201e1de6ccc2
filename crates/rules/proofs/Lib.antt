-- Laws that the proofs of this crate share.
pub mod Alls
pub mod Marked
pub mod Entries
pub mod ByRow
pub mod FrameTests
pub mod Words
pub mod Places
pub mod Tally
pub mod Charges
pub mod Used
