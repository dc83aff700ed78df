pub mod Storing
pub mod Looking
pub mod Tasking
pub mod Freezing
pub mod Orders
pub mod Retelling
pub mod Unexported
pub mod Retold
