-- Laws of the definitions: proved, so nothing here needs to be believed.
pub mod Filling
pub mod Bytes
pub mod Header
pub mod Rows
pub mod Places
