pub mod Actions
pub mod Frames
pub mod Effects
pub mod Outcomes
pub mod Running
pub mod laws
