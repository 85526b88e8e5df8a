pub mod Seal
pub mod Chunks
pub mod Head
pub mod Laws
