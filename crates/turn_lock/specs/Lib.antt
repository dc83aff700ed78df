pub mod Totals
pub mod Views
pub mod Line
pub mod Book
pub mod Turn
pub mod Kept
pub mod Steps
pub mod Seats
