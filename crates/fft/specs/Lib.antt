pub mod Exact
pub mod Fast
pub mod Laws
pub mod Ops
pub mod Private
pub mod Plain
pub mod Single
