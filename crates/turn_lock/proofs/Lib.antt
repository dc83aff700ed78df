pub mod Totals
pub mod Stages
pub mod Tales
pub mod Numbers
pub mod Lines
pub mod Books
pub mod Turns
pub mod Keeps
