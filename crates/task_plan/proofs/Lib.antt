pub mod Aheads
pub mod Faulting
pub mod Inputting
pub mod Keeping
pub mod Stepping
pub mod Taking
