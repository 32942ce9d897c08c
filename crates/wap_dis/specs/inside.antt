pub mod Gathering
pub mod Gathered
pub mod LineWords
