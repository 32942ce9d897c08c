-- Expressions of sources and their code agree: lemmas in `proofs/`. There is no code here.
pub mod Agreeing
pub mod Expressions
