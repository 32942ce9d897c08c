pub mod Drawing
pub mod TreeNeeds
pub mod Statements
pub mod Programs
pub mod Operators
pub mod Once
