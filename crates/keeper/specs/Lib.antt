-- The copies of the lent frames.
pub mod Copies
