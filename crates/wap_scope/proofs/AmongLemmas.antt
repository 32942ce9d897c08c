pub mod Rows
pub mod Sayings
pub mod Expressions
pub mod Statements
pub mod Functions
