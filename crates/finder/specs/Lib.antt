pub mod Doubling
pub mod Finder
pub mod Kept
pub mod Laws
pub mod Search
