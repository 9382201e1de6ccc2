-- What the events about one page see and need.
pub mod Seen
pub mod Asks
pub mod Needs
pub mod Looks
pub mod Faults
pub mod Writes
