pub mod Loops
pub mod Closings
pub mod Nexts
pub mod Levels
pub mod Climbing
