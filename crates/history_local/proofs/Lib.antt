pub mod Chosen
pub mod Groups
pub mod Interleavings
pub mod Renaming
pub mod Counterexamples
