pub mod InPaper
pub mod Lengths
pub mod Order
pub mod Places
pub mod Remembered
