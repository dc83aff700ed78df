pub mod Aside
pub mod Digits
pub mod Folders
