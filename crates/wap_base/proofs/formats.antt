pub mod Parts
pub mod Readers
pub mod Steps
pub mod Rows
pub mod KindBytes
pub mod Loops
