pub mod Old
pub mod Stamps
pub mod Steps
pub mod Faults
pub mod Halfway
pub mod Upgraded
pub mod Writes
