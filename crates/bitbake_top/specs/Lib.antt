pub mod Answers
pub mod Clean
pub mod Dry
pub mod Parts
pub mod Sample
pub mod Why
pub mod Worked
