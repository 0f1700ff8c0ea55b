pub mod Kinds
pub mod Accounts
