pub mod Fields
pub mod Seals
pub mod Sealed
pub mod Onward
pub mod Enough
pub mod Back
pub mod Examples
