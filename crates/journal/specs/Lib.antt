-- A device that tears, and a journal over it. What is proved of the definitions stands in Laws, and in proofs.
pub mod Device
pub mod Layout
pub mod Journal
pub mod Claims
pub mod Steps
pub mod Laws
