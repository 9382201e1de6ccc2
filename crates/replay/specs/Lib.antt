-- What the event program reads and prints.
pub mod Input
pub mod Output
pub mod Pieces
