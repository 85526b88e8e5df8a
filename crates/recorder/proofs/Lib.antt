pub mod InRow
pub mod Answers
pub mod GoesOn
pub mod Whole
pub mod Goods
