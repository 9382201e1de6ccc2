-- The fields of the event program's input.
pub mod Fields
