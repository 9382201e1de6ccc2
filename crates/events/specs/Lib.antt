-- What the chip has to do with an event, and what that leaves; what an event is given once questions 1 and 2 said yes of everything lent.
pub mod Chores
pub mod Tends
pub mod Kept
