pub mod Names
pub mod Faults
pub mod Outcomes
pub mod Plans
pub mod Samples
pub mod CommandLine
pub mod BenchLine
