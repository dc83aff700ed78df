pub mod Going
pub mod Halfway
pub mod Keeping
pub mod Coming
pub mod Across
pub mod Serving
pub mod Bringing
pub mod Marked
