pub mod Lists
pub mod Orders
pub mod Names
pub mod Laid
pub mod Limits
pub mod Put
pub mod Building
pub mod Joined
