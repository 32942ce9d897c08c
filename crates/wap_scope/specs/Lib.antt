pub mod Names
pub mod Scoped
pub mod Faults
pub mod Meanings
pub mod Places
pub mod inside
pub mod accepted
pub mod Among
