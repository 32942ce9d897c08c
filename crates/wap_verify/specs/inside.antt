pub mod Work
pub mod Kept
