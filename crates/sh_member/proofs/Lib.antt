pub mod BatchSteps
pub mod CallersOf
pub mod Ending
pub mod Hearing
pub mod PlaceWalks
pub mod OnePlace
pub mod JudgedKeys
pub mod TakingInto
