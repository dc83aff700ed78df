pub mod Keep
pub mod Tries
pub mod Passes
pub mod Worked
