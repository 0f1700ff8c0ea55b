-- Worked examples, computed on the definitions, and wrong tables: for each table some list of events breaks a clause.
pub mod Worked
pub mod WrongRows
pub mod NoRing
pub mod MoreWrongRows
pub mod LookRows
pub mod EndRows
pub mod EveryTable
