mod Given
mod Handed
pub mod Outcomes
