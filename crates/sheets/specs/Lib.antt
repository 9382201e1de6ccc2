-- Design sheets: what they are. What is proved of them stands in Laws.
pub mod Sheet
pub mod Edges
pub mod Laws
