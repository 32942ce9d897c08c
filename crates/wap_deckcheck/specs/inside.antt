-- What the contracts of this crate's own functions say.
pub mod Kinds
pub mod Rows
pub mod Walks
