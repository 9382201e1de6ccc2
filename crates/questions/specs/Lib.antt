-- The passes of question 2 by subject.
pub mod Groups
pub mod Promises
