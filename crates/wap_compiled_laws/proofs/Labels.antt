-- The jumps of code know their labels, and its operands are in range: lemmas in `proofs/`. There
-- is no code here.
pub mod Ranges
pub mod Wired
