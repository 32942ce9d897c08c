pub mod Prefixes
pub mod Joining
