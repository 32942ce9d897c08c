pub mod Arguments
pub mod Commands
pub mod Ranges
pub mod inside
