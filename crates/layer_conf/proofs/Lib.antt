pub mod Globs
pub mod Globbing
pub mod Begun
pub mod Placing
pub mod Layering
pub mod Listed
