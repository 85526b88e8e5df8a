pub mod Private
pub mod Sums
