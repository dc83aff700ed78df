pub mod Fates
pub mod Need
pub mod Choice
pub mod History
