pub mod Runs
pub mod Lent
pub mod Readers
pub mod Texts
pub mod inside
