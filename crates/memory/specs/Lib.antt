pub mod Hear
pub mod Calls
pub mod Brought
pub mod Laws
