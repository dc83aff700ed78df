pub mod Below
pub mod Upgrading
pub mod Bringing
