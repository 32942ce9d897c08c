pub mod Counting
pub mod Tours
