pub mod Alone
pub mod GoesOn
pub mod Cuts
pub mod Emptied
pub mod Exact
pub mod Working
pub mod Leaves
pub mod Fulls
