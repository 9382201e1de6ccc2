-- What is proved of the disk part in sectors.
pub mod Rows
pub mod Places
pub mod Sized
pub mod Back
pub mod Members
pub mod Covers
pub mod Covered
pub mod Apart
pub mod Homes
pub mod Transfers
pub mod Edges
