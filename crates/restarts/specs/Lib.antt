-- What restart and format set.
pub mod Formats
pub mod Filed
pub mod Counts
pub mod Numbers
pub mod Restarts
pub mod Promises
pub mod Answers
