-- What the calls of a driver answer: definitions over crates `layout` and `journal`. What is proved of them stands in Laws.
pub mod Bytes
pub mod Header
pub mod Taken
pub mod Places
pub mod Journal
pub mod Laws
