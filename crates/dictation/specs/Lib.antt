pub mod Dictation
pub mod Cutting
pub mod Resuming
