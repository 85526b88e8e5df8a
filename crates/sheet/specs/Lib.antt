pub mod Sheet
pub mod End
pub mod Asked
pub mod Written
pub mod Rows
pub mod Laws
pub mod Mended
pub mod Private
