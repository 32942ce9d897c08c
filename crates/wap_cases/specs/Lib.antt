pub mod Numbered
pub mod Small
pub mod inside
