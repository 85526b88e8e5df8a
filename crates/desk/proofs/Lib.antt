pub mod Answered
pub mod Apart
pub mod Buffers
pub mod Halved
pub mod Kept
pub mod Leaves
pub mod Noted
mod Pieced
pub mod Ranged
pub mod Replies
pub mod Results
mod Serve
pub mod Turned
pub mod Zeros
