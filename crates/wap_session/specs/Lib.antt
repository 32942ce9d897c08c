pub mod Feeding
pub mod Ignoring
pub mod inside
pub mod notices
