pub mod Modes
pub mod Walks
