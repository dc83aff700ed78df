pub mod Listings
pub mod AnyGraph
pub mod Told
pub mod OneRun
pub mod Running
pub mod PartRuns
