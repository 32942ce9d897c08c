-- Placed code of sources reaches each of its places with one number of values, and with enough:
-- lemmas in `proofs/`. There is no code here.
pub mod Spelled
pub mod Table
pub mod Stepping
pub mod Reached
pub mod Sound
