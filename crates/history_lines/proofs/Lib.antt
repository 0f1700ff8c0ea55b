pub mod CallsLemmas
pub mod ReadingLemmas
pub mod TextLemmas
pub mod JudgingLemmas
pub mod SearchLemmas
