-- What the events about an account see, ask and are given.
pub mod Seen
pub mod Asks
pub mod Promises
