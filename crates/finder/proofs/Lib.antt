pub mod Joined
pub mod Lags
pub mod Ranges
