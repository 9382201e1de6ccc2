-- What the events about a design or an account see of the tables.
pub mod Seen
pub mod Asks
pub mod Needs
