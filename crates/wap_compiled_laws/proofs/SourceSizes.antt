-- How many bytes the texts of a source have, beside the tokens that they are drawn from. Lemmas in
-- `proofs/`; there is no code here.
pub mod Strings
pub mod Tokens
pub mod Sizes
pub mod Weights
