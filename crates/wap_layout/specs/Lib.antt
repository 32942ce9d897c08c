pub mod Blanks
pub mod Pieces
pub mod Layout
pub mod Calculation
pub mod inside
pub mod buffer
