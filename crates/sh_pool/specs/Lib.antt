pub mod PoolSlots
