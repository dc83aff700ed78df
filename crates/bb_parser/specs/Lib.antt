pub mod Faults
pub mod Quotes
pub mod Words
pub mod Forms
pub mod Tasks
pub mod Reading
pub mod Written
pub mod LineFaults
