pub mod Marking
pub mod Defaults
