-- The code of sources has one number of operands at each form: lemmas in `proofs/`. There is no
-- code here.
pub mod Flow
pub mod Fine
pub mod Spots
pub mod Shapes
pub mod Loops
pub mod Bodies
