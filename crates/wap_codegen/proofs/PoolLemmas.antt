pub mod Numbered
pub mod Pooling
pub mod Declared
pub mod Once
pub mod Needed
