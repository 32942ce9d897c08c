-- Pieces of placed code do what parts of sources do: lemmas in `proofs/`. There is no code here.
pub mod Actions
pub mod Standing
pub mod Pieces
pub mod Instructions
pub mod Jumps
pub mod Sizes
pub mod Shorts
pub mod Assignments
