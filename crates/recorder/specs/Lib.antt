pub mod Recorder
pub mod Numbers
pub mod Private
pub mod Laws
