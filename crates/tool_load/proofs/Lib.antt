pub mod Filling
pub mod ArgumentLemmas
pub mod NameLemmas
pub mod BenchLemmas
