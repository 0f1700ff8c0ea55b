-- What a caller's own contracts say of passes: their heap, that all are of one heap, that they are all its passes, and
-- what an insert and a fetch do.
pub use Rattle.sh_pass.specs.Passes.{AreOf, AreAll}
pub use Rattle.sh_table.specs.Seats.{Heap}
pub use Rattle.sh_shard.specs.Shards.{InsertServes, value_class}
pub use Rattle.sh_pass.specs.Fetching.{FetchDoes}
