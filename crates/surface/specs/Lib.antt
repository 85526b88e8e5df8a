pub mod Surface
pub mod Between
pub mod Bytes
pub mod Cutting
pub mod Owner
pub mod Acceptance
pub mod Welcome
