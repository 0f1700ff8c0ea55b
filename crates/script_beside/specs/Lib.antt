pub mod Beside
pub mod Law
pub mod Along
