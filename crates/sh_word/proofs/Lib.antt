mod Bits
pub mod KindLaws
pub mod Words
