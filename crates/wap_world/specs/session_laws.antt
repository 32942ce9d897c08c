pub mod Ignored
pub mod Standing
pub mod Scripts
