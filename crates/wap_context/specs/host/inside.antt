pub mod Counting
pub mod Loading
