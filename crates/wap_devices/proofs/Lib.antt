pub mod Walks
pub mod Transfers
pub mod Putting
pub mod StoreLaws
pub mod Telling
