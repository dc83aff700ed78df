pub mod Walking
pub mod Deepest
pub mod Rounding
pub mod Finding
pub mod Searching
pub mod Maps
