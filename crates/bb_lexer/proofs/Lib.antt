pub mod Ends
pub mod Found
pub mod WholeLines
pub mod Utf8Texts
