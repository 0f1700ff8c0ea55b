pub mod PlainRun
pub mod StepsOutput
pub mod StepsKeys
pub mod Output
