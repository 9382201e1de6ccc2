-- The theorems over every list from a finished mending; and those on carried designs, applied.
pub mod Refused
pub mod Mended
pub mod Isolated
pub mod Applied
