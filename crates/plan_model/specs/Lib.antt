pub mod PlanRefusal
pub mod Inputs
pub mod Plans
pub mod Names
pub mod Sound
pub mod PlanSamples
pub mod Spellings
pub mod Blind
