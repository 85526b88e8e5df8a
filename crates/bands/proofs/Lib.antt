pub mod Edges
pub mod Norm
pub mod Results
pub mod Scale
pub mod Shares
pub mod Sums
pub mod WindowRule
