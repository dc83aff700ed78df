pub mod Binding
pub mod Bracketed
pub mod Fronted
pub mod Valued
pub mod Tasked
pub mod Chains
