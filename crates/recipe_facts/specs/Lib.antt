pub mod Brackets
pub mod Fronts
pub mod Wished
pub mod Recipe
