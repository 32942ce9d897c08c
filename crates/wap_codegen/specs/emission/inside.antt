pub mod Adding
pub mod Exits
pub mod Loops
pub mod Operands
