pub mod TokenReading
pub mod Expressions
pub mod Statements
pub mod Programs
