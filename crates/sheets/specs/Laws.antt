-- Laws of the definitions: proved, so nothing here needs to be believed.
pub mod Runs
pub mod Formed
pub mod Counts
pub mod Printed
pub mod Parsed
pub mod Laying
