-- What stands after a call that ran out of memory.
pub mod Stopped
-- What the contracts of this crate's own functions say.
pub mod inside
