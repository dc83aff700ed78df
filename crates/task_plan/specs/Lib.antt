pub mod Ahead
pub mod Faults
pub mod Meant
pub mod Steps
