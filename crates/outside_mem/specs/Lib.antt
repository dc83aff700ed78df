pub mod Fingerprint
pub mod Gates
pub mod Kept
pub mod Layers
pub mod Plan
pub mod Scripts
pub mod Spends
pub mod Told
