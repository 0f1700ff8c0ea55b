-- The code: one list of words and the parts represent the world, and a step of the code is a step of that world.
pub mod Steps
pub mod Trails
pub mod Stepping
pub mod Doing
pub mod Ready
pub mod Operating
pub mod OpeningWords
pub mod KeptWords
pub mod KeptValues
pub mod DecidingEvents
