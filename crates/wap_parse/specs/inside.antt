pub mod Headers
pub mod Signatures
