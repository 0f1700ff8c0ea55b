pub mod HeldLemmas
pub mod LineLemmas
pub mod ClashLemmas
pub mod NoteLemmas
pub mod FollowLemmas
pub mod TakeLemmas
pub mod WholeLemmas
