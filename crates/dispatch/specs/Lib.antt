-- What every event is handed and leaves.
pub mod Kept
pub mod Beside
