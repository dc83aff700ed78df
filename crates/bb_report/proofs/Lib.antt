pub mod Pieces
pub mod Fronts
pub mod Chains
pub mod Marks
