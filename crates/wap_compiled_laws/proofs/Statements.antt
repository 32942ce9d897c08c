-- Statements of sources and their code agree: lemmas in `proofs/`. There is no code here.
pub mod Statements
pub mod Loops
pub mod Adding
pub mod Running
