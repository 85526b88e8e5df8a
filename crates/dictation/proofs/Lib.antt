pub mod Joins
pub mod Taken
pub mod Follows
pub mod Cuts
pub mod Resumes
