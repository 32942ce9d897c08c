pub mod Keeping
pub mod Runs
pub mod Viewing
pub mod Feeding
pub mod Replying
pub mod Refusing
