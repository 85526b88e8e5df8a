pub mod Cepstra
pub mod Features
pub mod Gains
pub mod Laws
pub mod Private
pub mod Pitch
pub mod Silence
