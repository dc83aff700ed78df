pub mod LateValue
pub mod Winner
pub mod Settled
pub mod Faults
