pub mod Written
pub mod Effect
pub mod Reply
pub mod Answer
pub mod Share
pub mod Heard
pub mod Frame
pub mod Private
