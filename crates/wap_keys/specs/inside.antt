pub mod Taking
pub mod Wording
