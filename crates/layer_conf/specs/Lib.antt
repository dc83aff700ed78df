pub mod Rows
pub mod Globs
pub mod Places
pub mod Faults
pub mod Config
