pub mod Activations
pub mod Filter
pub mod Larger
pub mod Laws
pub mod Narrowed
pub mod Private
pub mod Root
pub mod Tansig
