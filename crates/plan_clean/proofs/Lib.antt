pub mod Joined
pub mod Fewer
pub mod Kept
pub mod Left
pub mod Serving
pub mod Eras
