pub mod Sets
pub mod View
pub mod Names
pub mod Owners
pub mod Reworks
pub mod Asked
pub mod Replans
