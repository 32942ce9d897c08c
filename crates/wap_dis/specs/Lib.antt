pub mod Names
pub mod Listing
pub mod Splitting
pub mod inside
