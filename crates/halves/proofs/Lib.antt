pub mod Cases
pub mod EitherWay
pub mod Joined
pub mod Kept
pub mod Lagged
pub mod Onward
pub mod Sister
pub mod Tested
