-- What an event leaves with the chip is what its own work leaves, tended.
pub mod Chores
pub mod Tables
pub mod Carried
