pub mod Apart
pub mod Crashes
pub mod Firsts
pub mod Folders
pub mod Later
pub mod Loops
pub mod Named
pub mod Tests
