pub mod Files
pub mod Listing
pub mod Needles
pub mod Prints
pub mod Trees
pub mod Stories
pub mod Damages
