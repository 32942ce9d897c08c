pub mod Finding
pub mod Alike
