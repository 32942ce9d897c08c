pub mod Rows
pub mod Onevents
pub mod Elements
