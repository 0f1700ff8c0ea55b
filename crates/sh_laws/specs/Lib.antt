pub mod Garbage
pub mod StrongOrders
pub mod Objects
pub mod Ends
pub mod Refuted
pub mod Walks
