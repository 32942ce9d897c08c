pub mod Meanings
pub mod inside
