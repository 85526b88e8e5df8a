pub mod Ends
pub mod Passed
