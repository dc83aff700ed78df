pub mod Passing
pub mod Counting
pub mod Closures
pub mod Trails
pub mod Trying
pub mod Working
