pub mod Exact
pub mod Nudged
pub mod Rule
pub mod Special
pub mod Wholes
