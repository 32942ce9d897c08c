pub mod Cards
pub mod Stores
pub mod Sourced
