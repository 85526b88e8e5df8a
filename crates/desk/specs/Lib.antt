pub mod Answer
pub mod Gate
pub mod Desk
pub mod Surface
pub mod Laws
pub mod Private
