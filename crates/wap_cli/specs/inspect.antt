pub mod Units
pub mod Documents
pub mod Sources
