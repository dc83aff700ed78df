pub mod Joins
pub mod OverDefault
pub mod Told
