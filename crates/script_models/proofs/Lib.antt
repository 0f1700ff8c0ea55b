pub mod RunLemmas
pub mod StepKeys
pub mod StepLemmas
