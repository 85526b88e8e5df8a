pub mod Exact
pub mod Log10
pub mod Tables
