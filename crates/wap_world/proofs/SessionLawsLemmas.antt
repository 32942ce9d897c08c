pub mod FieldNumbers
pub mod Denied
pub mod Ignored
pub mod Standing
pub mod Following
