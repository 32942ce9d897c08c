-- What the contracts of this crate's own functions say.
pub mod Building
pub mod Names
pub mod Frames
pub mod Tops
