pub mod PartValues
pub mod Reading
pub mod Numbers
