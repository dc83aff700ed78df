pub mod Slashes
pub mod Endings
