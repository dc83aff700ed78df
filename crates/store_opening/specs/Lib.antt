pub mod Named
pub mod Paths
pub mod Sound
pub mod Opening
pub mod Survey
pub mod Reopened
