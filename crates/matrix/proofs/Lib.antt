pub mod Bytes
pub mod Columns
pub mod Flipped
pub mod Lengths
pub mod Neurons
