pub mod Opening
pub mod Sizing
