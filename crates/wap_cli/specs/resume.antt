pub mod Saving
pub mod Resuming
pub mod inside
