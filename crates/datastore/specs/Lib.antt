pub mod Faults
pub mod Looked
pub mod Telling
pub mod Anew
pub mod Parts
pub mod Store
pub mod Orders
