pub mod Order
pub mod Plain
pub mod Rounded
pub mod Same
pub mod Signs
