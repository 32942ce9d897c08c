-- What holds of the pieces of code holds of the code of each expression and statement: lemmas in
-- `proofs/`. There is no code here.
pub mod Pieces
pub mod Known
pub mod Parts
pub mod Expressions
pub mod Effects
pub mod Statements
