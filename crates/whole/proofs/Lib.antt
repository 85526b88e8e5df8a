pub mod Accepted
mod Behind
pub mod Dictations
pub mod Halves
pub mod Outcomes
pub mod Ranged
mod Said
