pub mod Own
pub mod Ways
pub mod Halves
pub mod Laws
