pub mod Onward
pub mod Splitting
pub mod Settling
pub mod Deciding
pub mod Alike
