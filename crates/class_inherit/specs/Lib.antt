pub mod Faults
pub mod Late
pub mod Adding
pub mod Reading
pub mod Naming
