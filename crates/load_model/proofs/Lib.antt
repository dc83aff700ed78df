pub mod VersionOrder
pub mod Growth
mod Greatest
