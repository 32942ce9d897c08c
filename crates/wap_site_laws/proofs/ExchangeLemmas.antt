pub mod Replacing
pub mod Letting
pub mod Denying
pub mod Sources
pub mod Stores
