pub mod Judged
pub mod Seen
pub mod Differing
pub mod Fates
pub mod Why
pub mod Answered
pub mod Worked
