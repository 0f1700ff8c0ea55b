-- The record `Agreement` over each move: its slots and keys, its lists, its bounds. The moves are grouped by what they
-- step on, and `RunAll` lists them. `ByMove` lifts what each move keeps to events and runs: it is the only lift.
pub mod ByMove
pub mod AllSlots
pub mod AllReads
pub mod AllLooks
pub mod AllStacks
pub mod AllBells
pub mod RunAll
