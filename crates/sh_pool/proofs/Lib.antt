pub mod Homes
pub mod Newcomers
