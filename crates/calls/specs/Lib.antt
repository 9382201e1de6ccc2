-- Questions 1 and 2 of a call, the frames that are lent, and what each call is by them.
pub mod Frames
pub mod Lined
pub mod Common
pub mod Looking
pub mod Restarting
pub mod Applying
