-- Paper 02, wish 14: another mill's pattern cannot show.
pub mod Words
pub mod Twins
pub mod Answers
pub mod Shown
pub mod Isolated
pub mod ByNumber
pub mod Pairs
pub mod Denials
