pub mod Texts
pub mod Below
pub mod Outside
pub mod Folder
pub mod Steps
pub mod Faults
