-- The theorem: what is kept holds as a heap opens, `Invariant` holds after every list of events (`RunTheorem`), and
-- each clause of the theorem follows from it. What follows from clauses is in `Follows` and `LinkFacts`.
pub mod OpenSums
pub mod RunRefines
pub mod RunTheorem
pub mod KeyFacts
pub mod KeyHolds
pub mod Follows
pub mod LinkFacts
pub mod OwnerFacts
pub mod BellWords
pub mod LayoutLaws
