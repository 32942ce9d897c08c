pub mod Header
pub mod Nodes
pub mod Starts
pub mod Notes
pub mod Hashes
pub mod KeptBytes
