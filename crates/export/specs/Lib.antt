pub mod OfFinder
pub mod OfLag
pub mod OfNetwork
pub mod OfNumbers
pub mod OfPitch
pub mod Outcomes
pub mod Private
