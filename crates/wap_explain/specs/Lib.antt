pub mod Explaining
pub mod Mending
