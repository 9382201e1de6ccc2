-- Laws that the proofs of this crate share.
pub mod Asking
pub mod Picked
pub mod Going
pub mod Entries
pub mod Whole
pub mod Shown
pub mod Printed
pub mod Passed
pub mod Exporting
