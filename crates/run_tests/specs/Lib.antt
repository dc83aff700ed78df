pub mod Index
pub mod Playing
