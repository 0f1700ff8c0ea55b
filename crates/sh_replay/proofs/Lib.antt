pub mod EndingLemmas
pub mod HeapLemmas
