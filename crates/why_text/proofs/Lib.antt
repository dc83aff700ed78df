pub mod CertainTasks
pub mod SeenTasks
pub mod Causes
pub mod Lists
pub mod TaskLines
pub mod Looking
pub mod WholeText
