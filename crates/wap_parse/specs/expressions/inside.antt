pub mod Escapes
pub mod Properties
pub mod Climbing
