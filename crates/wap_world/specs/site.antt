pub mod Pages
pub mod Misses
pub mod Asking
