pub mod Functions
pub mod Pooled
