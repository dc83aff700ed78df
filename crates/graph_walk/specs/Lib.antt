pub mod Edges
pub mod Rounds
pub mod Marks
pub mod Found
pub mod Frontier
