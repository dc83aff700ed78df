pub mod ModeSamples
