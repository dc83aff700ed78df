pub mod Benches
pub mod Build
pub mod Drive
pub mod Ends
pub mod Laws
pub mod Outcome
pub mod Worked
