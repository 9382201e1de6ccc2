-- Laws of the definitions: proved, so nothing here needs to be believed.
pub mod Sequence
pub mod Commits
pub mod Asks
pub mod Looks
pub mod Each
