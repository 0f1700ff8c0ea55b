pub mod ListLemmas
pub mod HistoryLemmas
pub mod PlaceLemmas
pub mod CountLemmas
pub mod RefusalLemmas
pub mod OrderLemmas
pub mod JudgingLemmas
pub mod CourseLemmas
pub mod AnswerLemmas
pub mod FindingLemmas
mod MarkLemmas
mod IndexLemmas
