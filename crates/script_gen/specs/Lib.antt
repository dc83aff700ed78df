pub mod Told
pub mod Faults
pub mod Steps
pub mod Frames
pub mod Index
pub mod Given
