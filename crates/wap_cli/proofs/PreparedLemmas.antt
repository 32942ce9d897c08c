pub mod Searching
pub mod Fitting
