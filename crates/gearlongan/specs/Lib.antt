pub mod Tasks
pub mod Passes
pub mod Receipts
-- What a receipt of a growing heap is of.
pub use Rattle.sh_grown.specs.Receipts.{AreReceiptsIn}
