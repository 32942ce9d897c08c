pub mod Dots
pub mod Pressing
pub mod Turns
