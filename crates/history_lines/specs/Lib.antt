pub mod Line
pub mod Calls
pub mod Book
pub mod Taken
pub mod Judged
pub mod Searched
pub mod Unread
