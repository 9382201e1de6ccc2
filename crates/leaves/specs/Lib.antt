-- What the leaves of the code do to one table.
pub mod Addresses
pub mod Asks
pub mod ByEntry
pub mod Counts
pub mod FrameLaws
pub mod FreeMap
pub mod Freed
pub mod Near
pub mod Packed
pub mod Payers
pub mod Picks
pub mod Search
