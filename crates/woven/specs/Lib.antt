-- What a read shows, and the keeper without the chip.
pub mod Woven
pub mod Without
