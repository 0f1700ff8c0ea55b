pub mod Numbers
pub mod Chain
pub mod Queues
