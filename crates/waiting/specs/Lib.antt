-- What an event of the waiting line sees.
pub mod Seen
