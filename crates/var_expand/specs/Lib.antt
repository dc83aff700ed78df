pub mod Expanding
pub mod Faults
pub mod Going
pub mod Pieces
pub mod ReadOn
pub mod Standing
pub mod ValueTable
