pub mod Keys
pub mod Numbers
pub mod Replies
pub mod Results
pub mod AccountLines
pub mod Ends
pub mod Faults
