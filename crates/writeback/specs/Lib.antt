-- What the events that free, cut and store see, need and leave: `seen..` is the state that an event reads, `entered..` that state as the event is passed it, `Needs` what questions 1 and 2 give.
-- What a pass inside an event is given and leaves goes by `..Given` and `..Left`.
pub mod ByPage
pub mod Claim
pub mod Needs
pub mod Pages
pub mod Seen
pub mod Truncate
pub mod Update
