-- What the passes of question 2 decide.
pub mod Passes
pub mod Promises
