pub mod Whole
pub mod Surface
pub mod Laws
pub mod Private
