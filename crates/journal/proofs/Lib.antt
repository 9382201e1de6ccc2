-- The theorems over every list of stores with cuts and kills, what they rest on, and protocols that they deny.
pub mod Cuts
pub mod Places
pub mod Stores
pub mod Good
pub mod Plan
pub mod Whole
pub mod Counting
pub mod Theorem
pub mod Wrong
pub mod Ends
pub mod Sized
pub mod Refused
pub mod Followed
pub mod Applied
