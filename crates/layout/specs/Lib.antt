-- The disk part in sectors.
pub mod Rows
pub mod Laid
pub mod Touched
pub mod Claims
