-- The code of programs, form by form: its operands have room, what it needs is there, and its size
-- is the wide size but for what is saved. Lemmas in `proofs/`; there is no code here.
pub mod Libraries
pub mod Costs
pub mod Pieces
pub mod Places
pub mod Needs
pub mod Bodies
