pub mod Splitting
pub mod Cutting
pub mod Joining
pub mod Slices
pub mod Filling
pub mod Placing
pub mod Plain
pub mod Feeds
pub mod Begun
pub mod Unique
pub mod Laying
pub mod Unwrapped
pub mod Visible
pub mod Groups
pub mod Merging
mod Examples
pub mod BufferLemmas
