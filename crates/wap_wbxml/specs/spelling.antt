pub mod Writings
pub mod Names
pub mod Spelling
pub mod Spellable
pub mod Left
pub mod Written
pub mod inside
pub mod Characters
