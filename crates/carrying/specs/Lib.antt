-- Import and export in code: what they see, need and leave.
pub mod Seen
pub mod Texts
pub mod Asks
pub mod Imports
pub mod Exports
