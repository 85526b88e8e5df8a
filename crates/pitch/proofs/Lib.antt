pub mod Passed
pub mod Starts
pub mod Sums
