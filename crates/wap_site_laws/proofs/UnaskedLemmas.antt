pub mod Beside
pub mod Rules
pub mod Sites
