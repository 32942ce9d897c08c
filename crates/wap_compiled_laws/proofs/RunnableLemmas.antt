pub mod Split
pub mod Whole
