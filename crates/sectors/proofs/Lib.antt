-- What is proved of the look-ups.
pub mod Laws
