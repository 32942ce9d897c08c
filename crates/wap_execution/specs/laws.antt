pub mod Settings
pub mod Instructions
pub mod Dialogs
pub mod Bounds
pub mod Counts
pub mod Keyed
pub mod Simulation
pub mod Forgetting
