pub mod Layouts
pub mod Work
pub mod Jobs
pub mod Left
pub mod OneTask
pub mod Runnable
pub mod Parts
