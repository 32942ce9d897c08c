pub mod Passes
pub mod Indexes
