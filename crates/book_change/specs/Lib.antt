pub mod Going
pub mod Coming
pub mod Worked
pub mod Serving
pub mod Bringing
pub mod Marking
