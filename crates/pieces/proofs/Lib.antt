pub mod Accepted
pub mod Cases
pub mod Goods
pub mod Halved
pub mod Kept
pub mod Padding
mod Serve
pub mod Shares
pub mod Tested
