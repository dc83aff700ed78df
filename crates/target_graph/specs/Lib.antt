pub mod Runs
pub mod Meaning
pub mod Parts
pub mod Samples
