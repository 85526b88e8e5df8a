pub mod Feed
pub mod Laws
pub mod Surface
pub mod Private
