-- What the contracts of this crate's own functions say.
pub mod Globals
pub mod Walks
