pub mod Performed
pub mod Isolated
pub mod Runs
pub mod Moved
pub mod Memories
pub mod Numberings
