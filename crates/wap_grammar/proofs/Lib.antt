pub mod Firsts
pub mod Items
pub mod Productions
pub mod Callees
pub mod Operands
pub mod Levels
pub mod CommaLists
pub mod Elses
pub mod Statements
pub mod Pragmas
pub mod Blocks
pub mod Whole
mod Rows
pub mod Escapes
pub mod Texts
pub mod Guards
pub mod Unique
pub mod Places
pub mod Depths
pub mod Refusals
pub mod Below
mod Programs
pub mod Answering
