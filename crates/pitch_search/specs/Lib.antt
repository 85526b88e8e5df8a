pub mod Best
pub mod Inner
pub mod Laws
