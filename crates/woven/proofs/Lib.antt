-- What a read shows, in every list of acts.
pub mod Text
pub mod Unseen
pub mod ChipUnseen
pub mod Used
pub mod UsedMore
