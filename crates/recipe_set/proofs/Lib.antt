mod Digits
mod Pieces
pub mod Naming
pub mod Appending
pub mod Picking
pub mod Loads
pub mod Setting
