pub mod Joining
pub mod Queries
pub mod Targets
