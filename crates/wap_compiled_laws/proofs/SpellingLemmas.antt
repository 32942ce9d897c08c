pub mod Written
pub mod Bytes
pub mod Units
pub mod Distinct
pub mod Accepted
