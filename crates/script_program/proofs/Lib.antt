pub mod ModeLemmas
pub mod CommandLine
pub mod ArgumentLemmas
