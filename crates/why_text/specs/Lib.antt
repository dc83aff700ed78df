pub mod Looks
pub mod LookLaws
pub mod Telling
