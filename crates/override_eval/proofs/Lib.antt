pub mod ColonPieces
pub mod Colons
pub mod Lates
pub mod Places
pub mod Best
pub mod Passes
