pub mod Kept
pub mod Calls
pub mod Gains
pub mod Heard
