pub mod Lag
pub mod Laws
