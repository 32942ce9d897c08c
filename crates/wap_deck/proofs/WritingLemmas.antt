pub mod Lists
pub mod PiecesAndKids
pub mod Starts
pub mod Content
pub mod Emptiness
pub mod Naming
pub mod Told
