pub mod Pausing
pub mod Browsers
pub mod Sites
pub mod Acting
pub mod Saved
pub mod inside
pub mod host
