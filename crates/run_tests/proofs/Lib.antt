pub mod Rows
pub mod BoardSteps
pub mod Orders
pub mod Recorded
