pub mod OnePlan
pub mod Planned
pub mod OnePart
pub mod Checking
pub mod Ascending
pub mod Pairs
pub mod GoodParts
pub mod Parts
