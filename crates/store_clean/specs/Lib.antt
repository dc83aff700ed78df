pub mod Naming
pub mod Deciding
pub mod Cleared
pub mod Steps
pub mod Laws
