pub mod History
pub mod FirstFault
pub mod Log
pub mod Laws
