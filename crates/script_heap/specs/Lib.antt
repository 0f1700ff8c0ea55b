pub mod WholeAccounts
pub mod ByLine
pub mod HeapOutput
pub mod OwnSteps
pub mod Owners
pub mod Rooms
pub mod Crowding
